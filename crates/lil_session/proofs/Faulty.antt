-- A text has one fault or one meaning, and what it says is carried out.
use Rattle.std.proofs.Common.{◌≡◌, ◌⊎◌, ℕ, ◌+◌, ◌≤◌, ◌<◌, length, nat_le, min, Bool, true, false, List, Option, Some, None, Result, Ok, Err, IfOk, if◌then◌else◌, refl, sym, ap, subst, ◌∙◌, inl, inr, arith}
use Rattle.std.proofs.lemmas.Bool.{leb-true, le-leb}
use Rattle.lil_base.specs.{declared.fault.{Place.Place, SourceFault.SourceFault}, Faults.{fault, code_too_long}}
use Rattle.lil_text.specs.declared.stop.ReadStop.{ReadStop, TheVariants.{Fault, Memory}}
use Rattle.lil_resolved.specs.{Resolved.Resolved, Kinds.all_words, Sizes.{code_size, IsSmall}, declared.resolved.RModule.RModule, Views.module_of as resolved_of}
use Rattle.lil_language.specs.{Units.{Reads, HasReadFault}, declared.unit.Unit.Unit as Tree}
use Rattle.lil_session.specs.{declared.status.Status.Status, Outcome.{Verdict, Refused, Means, Silent, coded, module_says, checked_says, says, HasFault, HasMeaning, ReadsOne, stopped_by, ungenerated_by}, Answered.{Carried, TextRan}}
use Rattle.lil_session.specs.declared.status.Status.TheVariants as a
use Rattle.lil_interfaces.specs.Interfaces.{residents}
use Rattle.lil_check_unit.specs.Units.{module_of, program_fault, told, IsThere}
use Rattle.lil_unit.specs.declared.stop.GenStop.{GenStop}
use Rattle.lil_unit.specs.declared.stop.GenStop.TheVariants as gen
use Rattle.lil_session.proofs.Doing.{shows_none, text_memory, text_not, text_ran}
use Rattle.lil_report.specs.declared.report.Fault.{Fault as Checked}

same_fault : (f g : SourceFault) → Refused f ≡ Refused g → f ≡ g
same_fault f g e = cc

same_module : (p q : Resolved) → Means p ≡ Means q → p ≡ q
same_module p q e = cc

two : (f : SourceFault) (p : Resolved) → Refused f ≡ Means p → ⊥
two f p e = cc

pub apart_refused : (f : SourceFault) → Refused f ≡ Silent → ⊥
apart_refused f e = cc

pub apart_means : (p : Resolved) → Means p ≡ Silent → ⊥
apart_means p e = cc

module _ (file text : List ℕ) (apart : (u : Tree) (f : SourceFault) → Reads text u → HasReadFault text f → ⊥) where
  -- a text that is a unit
  pub unit_one : (one : (u v : Tree) → Reads text u → Reads text v → u ≡ v) (u : Tree) → Reads text u → (says file u ≡ Silent → ⊥) → ReadsOne file text
  unit_one one u reads speaks = record {
    some = some (says file u) refl;
    means = λ p q h k. same_module p q (sym h.1.1 ∙ ap (λ v. says file v) (one h.0 k.0 h.1.0 k.1.0) ∙ k.1.1);
    fault = faults;
    apart = both;
  }
    where
      some : (v : Verdict) → says file u ≡ v → ((f : SourceFault) × HasFault file text f) ⊎ ((p : Resolved) × HasMeaning file text p)
      some (Refused f) is = inl (f, inr (u, (reads, is)))
      some (Means p) is = inr (p, (u, (reads, is)))
      some Silent is = absurd (speaks is)

      faults : (f g : SourceFault) → HasFault file text f → HasFault file text g → f ≡ g
      faults f g (inl h) k = absurd (apart u f reads h)
      faults f g (inr h) (inl k) = absurd (apart u g reads k)
      faults f g (inr h) (inr k) = same_fault f g (sym h.1.1 ∙ ap (λ v. says file v) (one h.0 k.0 h.1.0 k.1.0) ∙ k.1.1)

      both : (f : SourceFault) (p : Resolved) → HasFault file text f → HasMeaning file text p → ⊥
      both f p (inl h) k = apart u f reads h
      both f p (inr h) k = two f p (sym h.1.1 ∙ ap (λ v. says file v) (one h.0 k.0 h.1.0 k.1.0) ∙ k.1.1)

  -- a text whose fault is that of its bytes, its tokens or its names
  fault_one : (f : SourceFault) → HasReadFault text f → ((g : SourceFault) → HasReadFault text g → (Fault f ≡ Fault g) ⊎ (Fault f ≡ Memory)) → ReadsOne file text
  fault_one f has exact = record { some = inl (f, inl has); means = λ p q h k. absurd (apart h.0 f h.1.0 has); fault = λ g i h k. sym (here g h) ∙ here i k; apart = λ g p h k. apart k.0 f k.1.0 has }
    where
      same : (g : SourceFault) → (Fault f ≡ Fault g) ⊎ (Fault f ≡ Memory) → f ≡ g
      same g (inl e) = cc
      same g (inr e) = absurd (cc)

      here : (g : SourceFault) → HasFault file text g → f ≡ g
      here g (inl h) = same g (exact g h)
      here g (inr h) = absurd (apart h.0 f h.1.0 has)

  module _ (steps : ℕ) (old : Option (List ℕ)) (old_faults : ℕ) where
    -- reading stopped
    pub text_stopped : (e : ReadStop) → ((f : SourceFault) → e ≡ Fault f → HasReadFault text f) → ((g : SourceFault) → HasReadFault text g → (e ≡ Fault g) ⊎ (e ≡ Memory))
        → TextRan file text steps old old_faults old old_faults (stopped_by e)
    text_stopped (Fault f) has exact = text_not file text steps old old_faults f (fault_one f (has f refl) exact) (inl (has f refl))
    text_stopped Memory has exact = text_memory file text steps old old_faults

    -- what the unit says was carried out
    module _ (one : (u v : Tree) → Reads text u → Reads text v → u ≡ v) (u : Tree) (reads : Reads text u) (new : Option (List ℕ)) (new_faults : ℕ) (s : Status) where
      at_old : new ≡ old → new_faults ≡ old_faults → TextRan file text steps old old_faults old old_faults s → TextRan file text steps old old_faults new new_faults s
      at_old shown faults ran =
          subst (λ n. TextRan file text steps old old_faults new n s) (sym faults) (subst (λ o. TextRan file text steps old old_faults o old_faults s) (sym shown) ran)

      carried_by : (v : Verdict) → says file u ≡ v → Carried v steps old old_faults new new_faults s → TextRan file text steps old old_faults new new_faults s
      carried_by (Refused f) is (inl same, (shown, faults)) =
          at_old shown faults (subst (λ s. TextRan file text steps old old_faults old old_faults s) (sym same) (text_not file text steps old old_faults f (unit_one one u reads (λ e. apart_refused f (sym is ∙ e))) (inr (u, (reads, is)))))
      carried_by (Refused f) is (inr same, (shown, faults)) = at_old shown faults (subst (λ s. TextRan file text steps old old_faults old old_faults s) (sym same) (text_memory file text steps old old_faults))
      carried_by (Means p) is ran = text_ran file text p steps old old_faults new new_faults s (unit_one one u reads (λ e. apart_means p (sym is ∙ e))) (u, (reads, is)) ran.shows ran.answer ran.kinds ran.cause ran.told
      carried_by Silent is c = absurd c

      pub text_carried : Carried (says file u) steps old old_faults new new_faults s → TextRan file text steps old old_faults new new_faults s
      text_carried c = carried_by (says file u) refl c

-- ---- memory was wanted before anything was run
pub carried_memory : (v : Verdict) → (v ≡ Silent → ⊥) → (steps : ℕ) (old : Option (List ℕ)) (faults : ℕ) → Carried v steps old faults old faults a.Memory
carried_memory Silent speaks steps old faults = absurd (speaks refl)
carried_memory (Refused f) speaks steps old faults = (inr refl, (refl, refl))
carried_memory (Means p) speaks steps old faults = record {
  shows = λ w blank. shows_none p w steps old a.Memory blank (λ is. cc) (λ is. cc) tt (inl refl);
  answer = λ w blank settles. absurd (cc);
  kinds = tt;
  cause = record { later = omega arith; rose = λ same. absurd (cc); quiet = inl refl };
  told = inr refl;
}

-- the fault is answered
pub carried_fault : {v : Verdict} (f : SourceFault) (steps : ℕ) (old : Option (List ℕ)) (faults : ℕ) → v ≡ Refused f → Carried v steps old faults old faults (a.SourceFault f)
carried_fault f steps old faults is = subst (λ v. Carried v steps old faults old faults (a.SourceFault f)) (sym is) (inl refl, (refl, refl))

-- ---- by how long the code is
pub small_of : (p : Resolved) (strings : List ℕ) → code_size p ≤ 32767 → all_words p.variables + length strings ≤ 32000 → IsSmall p strings
small_of p strings short few = record { code = short; words = few }

module _ (name : Place) (p : Resolved) where
  pub coded_short : code_size p ≤ 32767 → coded name p ≡ Means p
  coded_short le = ap (λ b. if b then Means p else Refused (code_too_long name (min (code_size p) 4294967295))) (le-leb (code_size p) 32767 le)

  coded_long : (bytes : ℕ) → 32767 < code_size p → bytes ≡ min (code_size p) 4294967295 → coded name p ≡ Refused (code_too_long name bytes)
  coded_long bytes lt is = by (nat_le (code_size p) 32767) refl ∙ ap (λ n. Refused (code_too_long name n)) (sym is)
    where
      by : (b : Bool) → nat_le (code_size p) 32767 ≡ b → (if b then Means p else Refused (code_too_long name (min (code_size p) 4294967295))) ≡ Refused (code_too_long name (min (code_size p) 4294967295))
      by true e = absurd (omega (arith, lt, leb-true (code_size p) 32767 e))
      by false e = refl

  pub coded_speaks : coded name p ≡ Silent → ⊥
  coded_speaks = by (nat_le (code_size p) 32767)
    where
      by : (b : Bool) → (if b then Means p else Refused (code_too_long name (min (code_size p) 4294967295))) ≡ Silent → ⊥
      by true e = apart_means p e
      by false e = apart_refused _ e

  -- no code was made
  pub carried_ungenerated : {T : Type 0} (r : Result T GenStop) (e : GenStop) → r ≡ Err e → ((bytes : ℕ) → r ≡ Err (gen.CodeTooLong bytes) → (32767 < code_size p) × (bytes ≡ min (code_size p) 4294967295))
      → (steps : ℕ) (old : Option (List ℕ)) (faults : ℕ) → Carried (coded name p) steps old faults old faults (ungenerated_by name e)
  carried_ungenerated {T} r (gen.CodeTooLong bytes) is long steps old faults = let h = long bytes is in carried_fault (code_too_long name bytes) steps old faults (coded_long bytes h.0 h.1)
  carried_ungenerated {T} r gen.Memory is long steps old faults = carried_memory (coded name p) coded_speaks steps old faults

-- ---- by what the check found
module _ (file : List ℕ) (u : Tree) where
  -- a unit without a fault has a module, so it says something
  speaks : (program_fault file u ≡ None → IsThere (module_of u residents)) → says file u ≡ Silent → ⊥
  unfolding says
  speaks there = by (program_fault file u) refl
    where
      by : (o : Option Checked) → program_fault file u ≡ o → checked_says u o ≡ Silent → ⊥
      by (Some g) is e = apart_refused (told g) e
      by None is e = let m = there is in coded_speaks u.head.name.place m.0 (sym (ap (module_says u) m.1) ∙ e)

  pub carried_stopped : (program_fault file u ≡ None → IsThere (module_of u residents)) → (e : ReadStop) → ((f : SourceFault) → e ≡ Fault f → (g : Checked) × (program_fault file u ≡ Some g) × (f ≡ told g))
      → (steps : ℕ) (old : Option (List ℕ)) (faults : ℕ) → Carried (says file u) steps old faults old faults (stopped_by e)
  unfolding says
  carried_stopped there (Fault f) h steps old faults = let p = h f refl in carried_fault f steps old faults (ap (λ o. checked_says u o) p.1 ∙ ap (λ f. Refused f) (sym p.2))
  carried_stopped there Memory h steps old faults = carried_memory (says file u) (speaks there) steps old faults

  says_checked : (m : RModule) → (Some (resolved_of m) ≡ module_of u residents) × (program_fault file u ≡ None) → coded u.head.name.place (resolved_of m) ≡ says file u
  unfolding says
  says_checked m h = ap (λ o. module_says u o) h.0 ∙ sym (ap (λ o. checked_says u o) h.1)

  pub carried_checked : (r : Result RModule ReadStop) (m : RModule) → r ≡ Ok m → IfOk r (λ m. (Some (resolved_of m) ≡ module_of u residents) × (program_fault file u ≡ None))
      → (steps : ℕ) (old : Option (List ℕ)) (old_faults : ℕ) (new : Option (List ℕ)) (new_faults : ℕ) (s : Status)
      → Carried (coded u.head.name.place (resolved_of m)) steps old old_faults new new_faults s → Carried (says file u) steps old old_faults new new_faults s
  carried_checked r m is right steps old old_faults new new_faults s c =
      subst (λ v. Carried v steps old old_faults new new_faults s) (says_checked m (subst (λ r. IfOk r (λ m. (Some (resolved_of m) ≡ module_of u residents) × (program_fault file u ≡ None))) is right)) c
