use Rattle.std.proofs.Common.{◌≡◌, map, ap, ◌∙◌, rules, arith}
use Rattle.std.proofs.lemmas.List.{take_all}
use Rattle.std.proofs.lemmas.List.Sorted.{answers_always, IsNonDecreasingBy-from_sort_by_key}
use Rattle.lil_iface.specs.Iface.{by_place, offset_of}
use Rattle.lil_iface.proofs.Ordered.{sorted_is, by_number_now}
use Rattle.lil_iface.proofs.names.by_place.Goals as goal

pub returns : goal.returns
returns c =
    let up = IsNonDecreasingBy-from_sort_by_key (λ b. offset_of b.now) _ c.in_ok-sort_by_key.ensures.sorted (λ a r q k. search rules) in
    let stable = c.sort_by_key.ensures.stable (λ b. offset_of b.now) (answers_always _ _ _ (λ f a r g h. search rules)) in
    let all : map (λ b. b.now) c.loop-one.order.items ≡ c.args.of.now = c.loop-one.invariant ∙ take_all c.loop-one.one-index c.args.of.now (omega arith) in
    ap (map (λ b. b.now)) (sorted_is (λ b. offset_of b.now) c.loop-one.order.items c.sort_by_key.new.self.items up stable)
    ∙ by_number_now (λ b. b.now) c.loop-one.order.items
    ∙ ap by_place all
