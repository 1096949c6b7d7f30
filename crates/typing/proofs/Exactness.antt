-- The promises, from both directions.
use Rattle.std.proofs.Common.{◌≡◌, ℕ, ◌⊎◌, Ok, Err, subst, inl, inr, arith}
use Rattle.fault.specs.declared.rules.Fault.{Fault}
use Rattle.typing.specs.Checker.{Answer}
use Rattle.typing.specs.Promise.{Exact, ExpressionsExact, StatementsExact, ProgramsExact}
use Rattle.typing.proofs.Judging.{Judged, Judged.judged_good, Judged.judged_bad, judge, judge_statement, judge_program}
use Rattle.typing.proofs.Answering.{typed_answer, fails_answer, valid_answer, invalid_answer, right_answer, wrong_answer}

module _ {A : Type 0} {Good : A → Type 0} {Bad : Fault → Type 0} where
  answer_good : {x : Answer A} {a : A} → Judged Good Bad x → x ≡ Ok a → Good a
  answer_good (judged_good g) h = subst Good (ok_in h) g
    where
      ok_in : {a b : A} → ◌≡◌ {A = Answer A} (Ok a) (Ok b) → a ≡ b
      ok_in h = cc
  answer_good (judged_bad b) h = let z : ◌≡◌ {A = ℕ} 0 1 = cc in absurd (omega arith)

  answer_bad : {x : Answer A} {f : Fault} → Judged Good Bad x → x ≡ Err f → Bad f
  answer_bad (judged_good g) h = let z : ◌≡◌ {A = ℕ} 0 1 = cc in absurd (omega arith)
  answer_bad (judged_bad b) h = subst Bad (err_in h) b
    where
      err_in : {f g : Fault} → ◌≡◌ {A = Answer A} (Err f) (Err g) → f ≡ g
      err_in h = cc

  either : {x : Answer A} → Judged Good Bad x → ((a : A) × Good a) ⊎ ((f : Fault) × Bad f)
  either (judged_good {a = a} g) = inl (a, g)
  either (judged_bad {f = f} b) = inr (f, b)

-- An answer that is right, and that every value and every fault comes out as, is exact.
exact : {A : Type 0} {Good : A → Type 0} {Bad : Fault → Type 0} {x : Answer A} →
    Judged Good Bad x → ((a : A) → Good a → x ≡ Ok a) → ((f : Fault) → Bad f → x ≡ Err f) → Exact x Good Bad
exact {A} judged good bad =
    record {
      accepted = λ a. (answer_good judged, good a);
      refused = λ f. (answer_bad judged, bad f);
      one_answer = λ a b g h. let p = good a g in let q = good b h in cc;
      one_fault = λ f g b c. let p = bad f b in let q = bad g c in cc;
      one_of_both = either judged;
      never_both = λ a f g b. let p = good a g in let q = bad f b in let z : ◌≡◌ {A = ℕ} 0 1 = cc in omega arith;
    }

pub expressions_exact : ExpressionsExact
expressions_exact env e = exact (judge env e) (λ t. typed_answer) (λ f. fails_answer)

pub statements_exact : StatementsExact
statements_exact env s = exact (judge_statement env s) (λ next. valid_answer) (λ f. invalid_answer)

pub programs_exact : ProgramsExact
programs_exact b = exact (judge_program b) (λ _. right_answer) (λ f. wrong_answer)
