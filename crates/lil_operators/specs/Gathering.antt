-- Elements that are gathered one after the other are those of the whole list.
use Rattle.std.proofs.Common.{◌≡◌, ◌∷◌, ◌++◌, ◌+◌, ℕ, List, [], Option, Some, None, length, refl, subst, sym, ap, ◌∙◌, arith}
use Rattle.std.proofs.lemmas.List.{get_or_push, take_at, length-append}
use Rattle.lil_base.specs.declared.fault.Place.{Place}
use Rattle.lil_types.specs.Types.{Table}
use Rattle.lil_resolved.specs.declared.resolved.RMember.{RMember}
use Rattle.lil_report.specs.{declared.report.Fault.Fault, Told.{Row, Said, tell, walk}, Laws.{said_more, said_all}, Faults.is_apart}
use Rattle.lil_kinds.specs.declared.found.Found.{Found}
use Rattle.lil_operators.specs.{declared.sets.{Operand.Operand, Gathered.Gathered}, Operations.{Elements, with_element, joined_one, joined_range, bounds_in, no_tally, gathered, all_gathered, with_gathered, gathered_one, gathered_range, kinds_of, operand_of, elements_tally, set_end, set_node, gathered_set}}
use Rattle.lil_forms.specs.Values.{single_by, span_by}

-- what a walk gives after one item more
module _ {S X : Type 0} (f : S → X → S × List Row) (s : S) (xs : List X) (x : X) (r : Option Fault) where
  pushed : Said (walk f s (xs ++ x ∷ [])) r (f (walk f s xs).0 x).0 (tell (tell r (walk f s xs).1) (f (walk f s xs).0 x).1)
  pushed = said_all f s (xs ++ x ∷ []) (length xs + 1) (rw (length-append xs (x ∷ [])) (omega arith))
      (said_more f s (xs ++ x ∷ []) (length xs) x (rw (length-append xs (x ∷ [])) (omega arith)) (sym (get_or_push xs x x (length xs) refl))
      (subst (λ ys. Said (walk f s ys) r (walk f s xs).0 (tell r (walk f s xs).1)) (sym (take_at xs (x ∷ []) (length xs) refl)) (record { value = refl; told = refl })) (record { value = refl; told = refl }))

module _ (types : Table) (s : Option ℕ) where
  pub gathered_more : (es : Elements) (form : Option RMember) (low : Operand) (high : Option Operand) → gathered types s (with_element es form low high) ≡ with_gathered types s (gathered types s es) form low high
  gathered_more es form low high =
      let h = pushed (bounds_in types s) no_tally es.bounds (record { low = low; high = high }) None in
      λ j. record { forms = (with_element es form low high).forms; tally = sym h.value j; report = sym h.told j }

  pub one_gathered : (es : Option Elements) (a : Option Found) → all_gathered types s (joined_one types s es a) ≡ gathered_one types s (all_gathered types s es) a
  one_gathered None a = refl
  one_gathered (Some es) None = refl
  one_gathered (Some es) (Some a) = λ j. Some (gathered_more es (single_by types (kinds_of types s) a) (operand_of a) None j)

  pub range_gathered : (es : Option Elements) (a b : Option Found) → all_gathered types s (joined_range types s es a b) ≡ gathered_range types s (all_gathered types s es) a b
  range_gathered None a b = refl
  range_gathered (Some es) None b = refl
  range_gathered (Some es) (Some a) None = refl
  range_gathered (Some es) (Some a) (Some b) = λ j. Some (gathered_more es (span_by types (kinds_of types s) a b) (operand_of a) (Some (operand_of b)) j)

pub is_gathered : (types : Table) (p : Place) (s : Option ℕ) (es : Option Elements) {r t : Option Fault} {a : Option Found} → Said (gathered_set types p s (all_gathered types s es)) r a t → Said (set_node types p s es) r a t
is_gathered types p None es h = h
is_gathered types p (Some n) None h = h
is_gathered types p (Some n) (Some es) h = is_apart (elements_tally types n es.bounds) (set_end types p n es.forms) h

-- what a call says of elements: those gathered, and the least fault after their own tests
abbrev pub Gathers : Table → Option ℕ → Option Elements × List Row → Option Fault → Option Gathered → Option Fault → Type 0
Gathers types s m r g t = (g ≡ all_gathered types s m.0) × Said m r m.0 t

pub gathers : (types : Table) (s : Option ℕ) {m : Option Elements × List Row} {r t : Option Fault} {es : Option Elements} {g : Option Gathered} → Said m r es t → g ≡ all_gathered types s es → Gathers types s m r g t
gathers types s h is = (is ∙ ap (all_gathered types s) h.value, record { value = refl; told = h.told })
