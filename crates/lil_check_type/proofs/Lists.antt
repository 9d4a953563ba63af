-- Labels that are searched from their begin, and arrays over several indexes.
use Rattle.std.proofs.Common.{◌≡◌, ℕ, ◌+◌, ◌<◌, ◌≤◌, length, Bool, true, false, not, ◌&&◌, ◌||◌, List, [], ◌∷◌, ◌++◌, Option, drop, get_or, reverse, refl, sym, ap, subst, ◌∙◌}
use Rattle.std.proofs.lemmas.List.{drop_more, drop_all, reverse-append}
use Rattle.lil_base.specs.declared.fault.Place.{Place}
use Rattle.lil_types.specs.{declared.table.{Span.Span, TypeForm.TypeForm}, Types.meets}
use Rattle.lil_report.specs.{declared.report.Fault.Fault, Told.{walk, Said}, Laws.{said_value, said_after}}
use Rattle.lil_scope.specs.declared.env.Env.{Env}
use Rattle.lil_check_type.specs.{Made.{Made, form_node}, SortedSpans.has_value_of, Sorts.{array_form, array_step}}

-- ---- values of labels
pub value_at : (us : List Span) (s : Span) (i : ℕ) (d : Span) {b : Bool} → i < length us → has_value_of us s ≡ has_value_of (drop i us) s → meets s (get_or us i d) ≡ b
    → has_value_of us s ≡ (b || has_value_of (drop (i + 1) us) s)
value_at us s i d {b = b} inside h m = h ∙ ap (λ us. has_value_of us s) (drop_more us i d inside) ∙ ap (λ b. b || has_value_of (drop (i + 1) us) s) m

pub no_value : (us : List Span) (s : Span) (i : ℕ) → length us ≤ i → has_value_of us s ≡ has_value_of (drop i us) s → has_value_of us s ≡ false
no_value us s i done h = h ∙ ap (λ us. has_value_of us s) (drop_all i us done)

-- ---- arrays
module _ (p : Place) {r : Option Fault} where
  pub is_array : (e : Env) (o i : Option ℕ) {f : Option TypeForm} {n : Made} {s : Option Fault} → f ≡ array_form i o → Said (form_node e p f) r n s → Said (array_step p (e, o) i) r n s
  is_array e o i {n = n} {s = s} is h = subst (λ f. Said (form_node e p f) r n s) is h

  pub last_array : (m : Made) (left : List (Option ℕ)) (i : Option ℕ) {n b : Made} {all : List (Option ℕ)} {s t : Option Fault} → all ≡ left ++ i ∷ [] → Said (array_step p m i) r n s
      → Said {A = Made} (walk (array_step p) n (reverse left)) s b t → Said {A = Made} (walk (array_step p) m (reverse all)) r b t
  last_array m left i {b = b} {t = t} is h k = subst (λ xs. Said {A = Made} (walk (array_step p) m xs) r b t) (sym (ap reverse is ∙ reverse-append left (i ∷ []))) (said_after _ _ h k)

  pub no_array : (m : Made) {left : List (Option ℕ)} → left ≡ [] → Said {A = Made} (walk (array_step p) m (reverse left)) r m r
  no_array m is = subst (λ xs. Said {A = Made} (walk (array_step p) m (reverse xs)) r m r) (sym is) (said_value refl)

-- ---- no test of two labels finds a fault
pub all_clear : (u c v d w e : Bool) {first last twice empty : Bool} → first ≡ (not u && (not c && true)) → last ≡ (not v && (not d && true)) → twice ≡ w → empty ≡ e
    → (first && (last && (not twice && not empty))) ≡ (not u && (not c && (not v && (not d && (not w && (not e && true))))))
all_clear u c v d w e h j k l = (λ i. h i && (j i && (not (k i) && not (l i)))) ∙ by u c v d w e
  where
    by : (u c v d w e : Bool) → ((not u && (not c && true)) && ((not v && (not d && true)) && (not w && not e))) ≡ (not u && (not c && (not v && (not d && (not w && (not e && true))))))
    by true c v d w e = refl
    by false true v d w e = refl
    by false false true d w e = refl
    by false false false true w e = refl
    by false false false false true e = refl
    by false false false false false true = refl
    by false false false false false false = refl
