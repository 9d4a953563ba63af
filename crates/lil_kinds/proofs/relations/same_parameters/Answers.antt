use Rattle.std.proofs.Common.{◌≡◌, ap, false, Bool, true, ◌&&◌, List, [], ◌∷◌, length, refl, sym, suc}
use Rattle.lil_types.specs.{Types.Table, declared.table.Parameter.Parameter}
use Rattle.lil_kinds.specs.Kinds.{same_parameter, same_parameters}
use Rattle.lil_kinds.proofs.relations.same_parameters.Goals as goal

false_last : (b c : Bool) → c ≡ false → (b && c) ≡ false
false_last true c e = e
false_last false c e = refl

-- lists of different lengths aren't the same
different : (t : Table) (xs ys : List Parameter) → (length xs ≡ length ys → ⊥) → same_parameters t xs ys ≡ false
different t [] [] h = absurd (h refl)
different t [] (y ∷ ys) h = refl
different t (x ∷ xs) [] h = refl
different t (x ∷ xs) (y ∷ ys) h = false_last (same_parameter t x y) (same_parameters t xs ys) (different t xs ys (λ e. h (ap (λ n. suc n) e)))

pub returns-then-xs-ys : goal.returns-then-xs-ys
returns-then-xs-ys c = sym (different c.args.t.now c.args.xs.now c.args.ys.now c.if-xs-ys.true)
