use Rattle.std.proofs.Common.{◌≡◌, ◌∷◌, [], ap, sym, subst, Some, Ok, Err, List, length, rules, arith}
use Rattle.std.specs.Iterator.Adapters.{zip_first, zip_second}
use Rattle.std.specs.Slice.Iter.{iter_rest}
use mathlib.Core.Logic.{inl, inr}
use Rattle.schema.specs.Columns.{Column, schema_of, held}
use Rattle.schema.proofs.Growing.{held_few}
use Rattle.typing.specs.Checker.{Answer}
use Rattle.inference.specs.Views.{answered}
use Rattle.lists.specs.Walks.{left, walked}
use Rattle.lists.proofs.Walking.{end_together}
use Rattle.lists.proofs.Renaming.{RenamesAll, rename_count, rename_all, renames_ended, renames_stopped, renames_on}
use Rattle.lists.proofs.names.rename.Goals as goal

pub returns-then-not-as_many : goal.returns-then-not-as_many
returns-then-not-as_many c = rename_count c.args.text.now c.args.nodes.now c.args.first (held c.args.schema.now) c.args.at (search rules) c.fault.result c.fault.ensures

pub returns-in_err-fresh : goal.returns-in_err-fresh
returns-in_err-fresh c =
    let first : left (zip_first c.loop-name.name-iterator) ≡ c.in-Some.name ∷ left (zip_first c.next.new.self) = search rules in
    let second : iter_rest (zip_second c.loop-name.name-iterator) ≡ c.in-Some.attribute.now ∷ iter_rest (zip_second c.next.new.self) = search rules in
    let told : c.from_residual.result ≡ Err c.in_err-fresh.field-0.0 = search rules in
    rename_all c.args.text.now c.args.nodes.now c.args.first (held c.args.schema.now) c.args.at (search rules) (held_few c.args.schema.now) (answered (schema_of c.args.text.now) c.from_residual.result) (
    subst (λ (r : Answer (List Column)). RenamesAll c.args.text.now (walked c.args.nodes.now (Some c.args.first)) (schema_of c.args.text.now c.args.schema.now) [] r) (ap (answered (schema_of c.args.text.now)) (sym told))
    (c.loop-name.invariant.same (Err c.in_err-fresh.field-0.0) (renames_stopped c.args.text.now first second (schema_of c.args.text.now c.loop-name.fresh) c.in_err-fresh.field-0.0 (search rules))))

pub loop-name-preserved : goal.loop-name-preserved
loop-name-preserved c =
    let first : left (zip_first c.loop-name.name-iterator) ≡ c.in-Some.name ∷ left (zip_first c.next.new.self) = search rules in
    let second : iter_rest (zip_second c.loop-name.name-iterator) ≡ c.in-Some.attribute.now ∷ iter_rest (zip_second c.next.new.self) = search rules in
    record {
      ready = search rules;
      ends = search rules;
      as_many = omega (arith, c.loop-name.invariant.as_many, ap length first, ap length second);
      same = λ r all. c.loop-name.invariant.same r (renames_on c.args.text.now first second (schema_of c.args.text.now c.loop-name.fresh) (schema_of c.args.text.now c.in_ok-fresh.fresh) (search rules) r all);
    }

pub returns : goal.returns
returns c =
    let ended = end_together (left (zip_first c.loop-name.name-iterator)) (iter_rest (zip_second c.loop-name.name-iterator)) (elim c.in-None.ensures.steps [ inl s ↦ inl s.1.0 | inr s ↦ inr s.1.0 ]) c.loop-name.invariant.as_many in
    rename_all c.args.text.now c.args.nodes.now c.args.first (held c.args.schema.now) c.args.at (search rules) (held_few c.args.schema.now) (Ok (schema_of c.args.text.now c.loop-name.fresh)) (
    c.loop-name.invariant.same (Ok (schema_of c.args.text.now c.loop-name.fresh))
    (renames_ended c.args.text.now (left (zip_first c.loop-name.name-iterator)) (iter_rest (zip_second c.loop-name.name-iterator)) (schema_of c.args.text.now c.loop-name.fresh) ended.0 ended.1))
