-- The first passage over a whole text.
use Rattle.std.proofs.Common.{◌≡◌, ℕ, ◌-◌, List, map, length, drop, Ok, Err, Result, refl, ap, ◌∙◌, arith}
use Rattle.std.proofs.lemmas.List.{length-drop}
use Rattle.fault.specs.declared.rules.Fault.{Fault}
use Rattle.schema.specs.declared.attributes.Attribute.{Attribute}
use Rattle.schema.specs.Columns.{column_of}
use Rattle.texts.specs.Language.{domains}
use Rattle.texts.specs.Readers.{Reading, Reading.taken, Reading.refused, bind}
use Rattle.texts.specs.Reading.{read_heading, read_body, read_table}
use Rattle.listing.specs.declared.reader.Reader.{Reader}
use Rattle.listing.specs.Seen.{rest, seen_as, AtFault, fault_at, passed, domains_of}
use Rattle.listing.specs.Whole.{replied}
use Rattle.listing.proofs.Exits.{Handed}
use Rattle.listing.proofs.Tables.{domains_are}
use Rattle.pool.specs.Learning.{Learned}
use Rattle.take.specs.Taking.{learnt, with_learned}

-- where a reader stands, by what is left
back : (s : Reader) → s.at ≡ length s.text.now - length (drop s.at s.text.now)
back s = let l = length-drop s.at s.text.now in omega (arith, l, s.within)

-- an answer of the reader, as a reply about the text
reply_of : (s : Reader) (text : List ℕ) (r : Result (Unit {0}) Fault) (l : Learned) (x : Reading Learned) → s.text.now ≡ text → seen_as (λ _ _. l) s r ≡ x → AtFault s r → with_learned r l ≡ replied text x
reply_of s text (Ok u) l x same e p = ap (replied text) e
reply_of s text (Err f) l x same e p =
    ap Err (p ∙ (ap (fault_at f.rule s.text.now) (back s) ∙ ap (λ t. fault_at f.rule t (length t - length (drop s.at s.text.now))) same)) ∙ ap (replied text) e

module _ (script : List ℕ) (all : List Attribute) (text s : List ℕ) (known : List (List ℕ)) (l : Learned) where
  turn : bind (passed (read_heading (map (column_of script) all) s)) (λ (_ : Unit {0}) q. learnt known l (read_body (domains_of all) q)) ≡ learnt known l (read_table (map (column_of script) all) s)
  turn = ap (λ ds. bind (passed (read_heading (map (column_of script) all) s)) (λ (_ : Unit {0}) q. learnt known l (read_body ds q))) (domains_are script all) ∙ go (read_heading (map (column_of script) all) s)
    where
      go : (y : Reading (List (Unit {0}))) → bind (passed y) (λ (_ : Unit {0}) q. learnt known l (read_body (domains (map (column_of script) all)) q)) ≡ learnt known l (bind y (λ _. read_body (domains (map (column_of script) all))))
      go (taken us q) = refl
      go (refused rule r) = refl

  -- the heading is right
  pub learnt_all : (after : Learned) (reader : Reader) (r : Result (Unit {0}) Fault) (u : Unit {0}) (q : List ℕ) → s ≡ text → reader.text.now ≡ text →
      taken u q ≡ passed (read_heading (map (column_of script) all) s) → seen_as (λ _ _. after) reader r ≡ learnt known l (read_body (domains_of all) q) → AtFault reader r →
      with_learned r after ≡ replied text (learnt known l (read_table (map (column_of script) all) text))
  learnt_all after reader r u q start same h e p =
      reply_of reader text r after _ same (e ∙ (ap (λ y. bind y (λ (_ : Unit {0}) q. learnt known l (read_body (domains_of all) q))) h ∙ (turn ∙ ap (λ z. learnt known l (read_table (map (column_of script) all) z)) start))) p

  -- the heading is refused
  pub learnt_none : (after : Learned) (reader : Reader) (r : Result (Unit {0}) Fault) (f : Fault) → Handed r f → s ≡ text → reader.text.now ≡ text →
      refused f.rule (rest reader) ≡ passed (read_heading (map (column_of script) all) s) → f ≡ fault_at f.rule reader.text.now reader.at →
      with_learned r after ≡ replied text (learnt known l (read_table (map (column_of script) all) text))
  learnt_none after reader r f handed start same h p =
      ap (λ x. with_learned x after) (handed.1 ∙ ap Err handed.2)
      ∙ reply_of reader text (Err f) after _ same (ap (λ y. bind y (λ (_ : Unit {0}) q. learnt known l (read_body (domains_of all) q))) h ∙ (turn ∙ ap (λ z. learnt known l (read_table (map (column_of script) all) z)) start)) p
