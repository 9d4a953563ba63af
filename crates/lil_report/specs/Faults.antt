-- The fault of tests that is kept apart speaks beside others as the tests do.
use Rattle.std.proofs.Common.{◌≡◌, ◌∷◌, Bool, true, false, List, [], Option, Some, None, if◌then◌else◌, refl, sym, ap, ◌∙◌}
use Rattle.lil_report.specs.{declared.report.Fault.Fault, Least.{is_up_to, least, worse, when}, LeastLaws.{up_no, up_trans}, Told.{Row, Said, rows_of, noted, tell, after}, Laws.tell_append}

apart : (b : Bool) → b ≡ true → b ≡ false → ⊥
apart b p q = cc

not_true : (b : Bool) → (b ≡ true → ⊥) → b ≡ false
not_true true never = absurd (never refl)
not_true false never = refl

left : (f g : Fault) → is_up_to f g ≡ true → least f g ≡ f
unfolding least
left f g e = ap (λ b. if b then f else g) e

right : (f g : Fault) → is_up_to f g ≡ false → least f g ≡ g
unfolding least
right f g e = ap (λ b. if b then f else g) e

module _ (f g h : Fault) where
  least_by : (x y : Bool) → is_up_to f g ≡ x → is_up_to g h ≡ y → least (least f g) h ≡ least f (least g h)
  least_by true true p q = (ap (λ z. least z h) (left f g p) ∙ left f h (up_trans f g h p q)) ∙ sym (ap (λ z. least f z) (left g h q) ∙ left f g p)
  least_by true false p q = ap (λ z. least z h) (left f g p) ∙ sym (ap (λ z. least f z) (right g h q))
  least_by false true p q = (ap (λ z. least z h) (right f g p) ∙ left g h q) ∙ sym (ap (λ z. least f z) (left g h q) ∙ right f g p)
  least_by false false p q =
      let later : is_up_to f h ≡ false = not_true (is_up_to f h) (λ e. apart (is_up_to f g) (up_trans f h g e (up_no g h q)) p) in
      (ap (λ z. least z h) (right f g p) ∙ right g h q) ∙ sym (ap (λ z. least f z) (right g h q) ∙ right f h later)

  least_both : least (least f g) h ≡ least f (least g h)
  least_both = least_by (is_up_to f g) (is_up_to g h) refl refl

worse_both : (a b c : Option Fault) → worse (worse a b) c ≡ worse a (worse b c)
unfolding worse
worse_both None b c = refl
worse_both (Some f) None c = refl
worse_both (Some f) (Some g) None = refl
worse_both (Some f) (Some g) (Some h) = ap Some (least_both f g h)

worse_none : (a : Option Fault) → worse a None ≡ a
unfolding worse
worse_none None = refl
worse_none (Some f) = refl

tell_both : (a b : Option Fault) (rs : List Row) → tell (worse a b) rs ≡ worse a (tell b rs)
unfolding tell
tell_both a b [] = refl
tell_both a b (r ∷ rs) = ap (λ o. tell o rs) (worse_both a b (when r.wrong r.place r.kind)) ∙ tell_both a (noted b r) rs

rows_told : (a b : Option Fault) → tell a (rows_of b) ≡ worse a b
unfolding tell when
rows_told a None = sym (worse_none a)
rows_told a (Some f) = refl

pub apart_told : (a : Option Fault) (rs : List Row) → tell a (rows_of (tell None rs)) ≡ tell a rs
apart_told a rs = rows_told a (tell None rs) ∙ (sym (tell_both a None rs) ∙ ap (λ o. tell o rs) (worse_none a))

pub is_apart : {A B : Type 0} (m : A × List Row) (k : A → B × List Row) {r t : Option Fault} {b : B} → Said (after (m.0, rows_of (tell None m.1)) k) r b t → Said (after m k) r b t
unfolding after
is_apart m k {r = r} h = record {
  value = h.value;
  told = h.told ∙ (tell_append r (rows_of (tell None m.1)) (k m.0).1 ∙ (ap (λ o. tell o (k m.0).1) (apart_told r m.1) ∙ sym (tell_append r m.1 (k m.0).1)));
}
