use Rattle.std.proofs.Common.{rules, ◌≡◌, suc, ◌-◌, sym, ap, ◌∙◌, subst, arith}
use Rattle.lil_mcode.specs.{declared.machine.Event.TheVariants.Went, Calls.Machine, Going.Ran, Stops.still_marked}
use Rattle.lil_mcode.proofs.machine.Machine.run.Goals as goal

pub returns-clause-ran : goal.returns-clause-ran
returns-clause-ran c =
    let n = c.args.most - 1 in
    let all : c.loop-k.k ≡ c.args.most = omega (arith, c.loop-k-test.false, c.loop-k.auto.k-end) in
    let count : c.args.most ≡ suc n = omega (arith, c.requires) in
    let x = c.loop-k.invariant.last n (omega (arith, all, count)) in
    let P : Machine → Type 0 = λ m. Ran c.args.self.now.state c.args.most Went m.state m.at_module m.at_place in
    subst P (sym c.note-2.ensures) (record { others = n; count = count; before = x.0; came = x.1; last = x.2; in_module = x.3; at = x.4 })

pub loop-k-preserved : goal.loop-k-preserved
loop-k-preserved c = record {
  came = search rules;
  last = search rules;
  marked = still_marked c.self-in-loop-k.inside.processor c.row.new.self c.row.result c.row.ensures c.in-Went.is (ap (λ (m : Machine). m.state.marked) c.self-in-loop-k.view_is ∙ c.loop-k.invariant.marked);
  steps = search rules;
  levels = search rules;
  begun = search rules;
  data_end = search rules;
}
