use Rattle.std.proofs.Common.{◌≡◌, ◌⊎◌, ◌-◌, Ok, Err, IfOk, subst, sym, ap, ◌∙◌}
use Rattle.lil_text.specs.declared.stop.ReadStop.TheVariants.{Fault, Memory}
use Rattle.lil_grammar.specs.Steps.{Reads}
use Rattle.lil_language.specs.{Grammar.{reading, text}, Units.{deepest, token_count, IsRightUnit}}
use Rattle.lil_read_unit.proofs.Answering as by
use Rattle.lil_read_unit.proofs.reading.unit.Goals as goal

whole : (c : goal.After-with_ends) → Reads (reading deepest (text (token_count c.args.t.now)) c.args.t.now) c.text.result c.text.new.reader
whole c = by.whole c.args.t.now c.new-reader.result c.saturating_sub-weight.result c.text.result c.text.new.reader (c.new-reader.ensures ∙ c.as_slice.ensures) (c.saturating_sub-weight.ensures ∙ ap (λ n. n - 1) c.len.ensures) c.text.ensures

pub returns-clause-found : goal.returns-clause-found
returns-clause-found c = subst (λ r. IfOk r (λ u. IsRightUnit c.args.t.now u)) (sym c.with_ends.ensures) (by.found c.args.t.now c.text.new.reader c.text.result (whole c))

pub returns-clause-only : goal.returns-clause-only
returns-clause-only c u h = subst (λ r. (r ≡ Ok u) ⊎ (r ≡ Err Memory)) (sym c.with_ends.ensures) (by.only c.args.t.now c.text.new.reader c.text.result (whole c) u h)

pub returns-clause-fault : goal.returns-clause-fault
returns-clause-fault c f is = by.fault_is c.args.t.now c.text.new.reader c.text.result (whole c) f (sym c.with_ends.ensures ∙ is)

pub returns-clause-exact : goal.returns-clause-exact
returns-clause-exact c f h = subst (λ r. (r ≡ Err (Fault f)) ⊎ (r ≡ Err Memory)) (sym c.with_ends.ensures) (by.exact c.args.t.now c.text.new.reader c.text.result (whole c) f h)

pub returns-clause-one : goal.returns-clause-one
returns-clause-one c = by.one c.args.t.now

pub returns-clause-apart : goal.returns-clause-apart
returns-clause-apart c = by.apart c.args.t.now

pub returns-clause-whole : goal.returns-clause-whole
returns-clause-whole c = by.whole_text c.args.t.now
