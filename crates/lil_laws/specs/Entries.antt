-- Each procedure has its code at its entry in the table, and no other one begins in it.
use Rattle.std.proofs.Common.{◌≡◌, ℕ, zero, suc, ◌+◌, ◌<◌, ◌≤◌, ◌⊎◌, inl, inr, Option, Some, None, List, [], ◌∷◌, length, take, get_or, refl, sym, ap, subst, ⊎_elim, arith}
use Rattle.std.specs.{Prelude.{slice_get}, List.All}
use Rattle.std.proofs.lemmas.Option.{none-some, same_Some}
use Rattle.lil_resolved.specs.Resolved.{Procedure, Resolved, procedure_by}
use Rattle.lil_table.specs.{Rows.{Layout, alone, in_procedure, layout_of, StretchRow, ProceduresAt, Translates}, Lengths.{framed_long, procedures_long}}
use Rattle.lil_match.specs.Goes.{IsApart}
use Rattle.lil_laws.specs.Loading.{Compiled, named_entries, procedure_table}

-- ---- procedures one behind another
module _ (strings : List ℕ) (text : Resolved) (code : List ℕ) where
  abbrev l : Layout
  l = layout_of alone strings text

  -- the code of a procedure, by its number, and its place among the entries
  pub record StandsAt (table : List (ℕ × Option (List ℕ))) (i p : ℕ) (its : Procedure) (low high : ℕ) : Type 0 where
    pub entry : ℕ
    pub there : slice_get table i ≡ Some (entry, Some its.name)
    pub after : ℕ
    pub row : StretchRow (in_procedure l p its) code its.result its.locals (take its.parameters its.locals) its.body entry after
    pub begins : low ≤ entry
    pub ends : after ≤ high
    pub apart : IsApart table i entry after

  -- all entries lie between two places
  entries_between : (n : ℕ) (ps : List Procedure) (es : List ℕ) (p q : ℕ) → ProceduresAt l code n ps es p q → (k e : ℕ) (name : Option (List ℕ)) → slice_get (named_entries ps es) k ≡ Some (e, name) → p ≤ e
  entries_between n [] es p q h k e name is = absurd (none-some (e, name) is)
  entries_between n (a ∷ ps) [] p q h k e name is = absurd h
  entries_between n (a ∷ ps) (f ∷ es) p q h zero e name is = let same : f ≡ e = ap (λ (x : ℕ × Option (List ℕ)). x.0) (same_Some (f, Some a.name) (e, name) is) in omega (arith, same, h.0)
  entries_between n (a ∷ ps) (f ∷ es) p q h (suc k) e name is =
      omega (arith, framed_long _ _ a.result a.locals (take a.parameters a.locals) a.body p h.1.middle h.1.here, entries_between (suc n) ps es h.1.middle q h.1.then k e name is)

  -- behind a first one
  behind_first : (n : ℕ) (a : Procedure) (ps : List Procedure) (e : ℕ) (es : List ℕ) (p q : ℕ) (h : ProceduresAt l code n (a ∷ ps) (e ∷ es) p q) (i : ℕ) (its : Procedure)
      → StandsAt (named_entries ps es) i (suc n + i) its h.1.middle q → StandsAt (named_entries (a ∷ ps) (e ∷ es)) (suc i) (n + suc i) its p q
  behind_first n a ps e es p q h i its rest = record {
    entry = rest.entry;
    there = rest.there;
    after = rest.after;
    row = let next : suc n + i ≡ n + suc i = omega arith in subst (λ (k : ℕ). StretchRow (in_procedure l k its) code its.result its.locals (take its.parameters its.locals) its.body rest.entry rest.after) next rest.row;
    begins = omega (arith, framed_long _ _ a.result a.locals (take a.parameters a.locals) a.body p h.1.middle h.1.here, rest.begins);
    ends = rest.ends;
    apart = apart;
  }
    where
      apart : IsApart (named_entries (a ∷ ps) (e ∷ es)) (suc i) rest.entry rest.after
      apart zero f name is =
          let same : e ≡ f = ap (λ (x : ℕ × Option (List ℕ)). x.0) (same_Some (e, Some a.name) (f, name) is) in
          inr (inl (omega (arith, same, h.0, framed_long _ _ a.result a.locals (take a.parameters a.locals) a.body p h.1.middle h.1.here, rest.begins)))
      apart (suc k) f name is = ⊎_elim (λ (s : k ≡ i). inl (ap suc s)) (λ (o : (f < rest.entry) ⊎ (rest.after ≤ f)). inr o) (rest.apart k f name is)

  stands_at : (n : ℕ) (ps : List Procedure) (es : List ℕ) (p q : ℕ) → ProceduresAt l code n ps es p q → (i : ℕ) (its : Procedure) → slice_get ps i ≡ Some its → StandsAt (named_entries ps es) i (n + i) its p q
  stands_at n [] es p q h i its is = absurd (none-some its is)
  stands_at n (a ∷ ps) [] p q h i its is = absurd h
  stands_at n (a ∷ ps) (e ∷ es) p q h zero its is =
      let first : n ≡ n + 0 = omega arith in
      let long = framed_long _ _ a.result a.locals (take a.parameters a.locals) a.body p h.1.middle h.1.here in
      subst (λ (k : ℕ). StandsAt (named_entries (a ∷ ps) (e ∷ es)) 0 k its p q) first
      (subst (λ (x : Procedure). StandsAt (named_entries (a ∷ ps) (e ∷ es)) 0 n x p q) (same_Some a its is)
      (record {
        entry = e;
        there = refl;
        after = h.1.middle;
        row = subst (λ (x : ℕ). StretchRow (in_procedure l n a) code a.result a.locals (take a.parameters a.locals) a.body x h.1.middle) (sym h.0) h.1.here;
        begins = omega (arith, h.0);
        ends = omega (arith, procedures_long l code (suc n) ps es h.1.middle q h.1.then);
        apart = apart;
      }))
    where
      apart : IsApart (named_entries (a ∷ ps) (e ∷ es)) 0 e h.1.middle
      apart zero f name is = inl refl
      apart (suc k) f name is = inr (inr (entries_between (suc n) ps es h.1.middle q h.1.then k f name is))
  stands_at n (a ∷ ps) (e ∷ es) p q h (suc i) its is = behind_first n a ps e es p q h i its (stands_at (suc n) ps es h.1.middle q h.1.then i its is)

-- ---- the body, and the procedures behind it
module _ (o : Compiled) where
  body_long : 4 ≤ o.translates.middle
  body_long = omega (arith, framed_long _ _ None [] [] o.text.body 0 o.translates.middle o.translates.body)

  pub body_within : o.translates.middle ≤ length o.code
  body_within = omega (arith, procedures_long (layout_of alone o.strings o.text) o.code 1 o.text.procedures o.entries o.translates.middle (length o.code) o.translates.procedures)

  pub body_apart : IsApart (procedure_table o.text o.entries) 0 0 o.translates.middle
  body_apart zero e name is = inl refl
  body_apart (suc k) e name is = inr (inr (entries_between o.strings o.text o.code 1 o.text.procedures o.entries o.translates.middle (length o.code) o.translates.procedures k e name is))

  pub record EntryRow (p : ℕ) (its : Procedure) : Type 0 where
    pub entry : ℕ
    pub there : slice_get (procedure_table o.text o.entries) p ≡ Some (entry, Some its.name)
    pub after : ℕ
    pub within : after ≤ length o.code
    pub apart : IsApart (procedure_table o.text o.entries) p entry after
    pub row : StretchRow (in_procedure (layout_of alone o.strings o.text) p its) o.code its.result its.locals (take its.parameters its.locals) its.body entry after

  pub entry_row : (p : ℕ) (its : Procedure) → procedure_by o.text.procedures p ≡ Some its → EntryRow p its
  entry_row zero its is = absurd (none-some its is)
  entry_row (suc p) its is = record {
    entry = r.entry;
    there = r.there;
    after = r.after;
    within = r.ends;
    apart = apart;
    row = let next : 1 + p ≡ suc p = omega arith in subst (λ (k : ℕ). StretchRow (in_procedure (layout_of alone o.strings o.text) k its) o.code its.result its.locals (take its.parameters its.locals) its.body r.entry r.after) next r.row;
  }
    where
      r : StandsAt o.strings o.text o.code (named_entries o.text.procedures o.entries) p (1 + p) its o.translates.middle (length o.code)
      r = stands_at o.strings o.text o.code 1 o.text.procedures o.entries o.translates.middle (length o.code) o.translates.procedures p its is

      apart : IsApart (procedure_table o.text o.entries) (suc p) r.entry r.after
      apart zero e name is =
          let same : 0 ≡ e = ap (λ (x : ℕ × Option (List ℕ)). x.0) (same_Some (0, None) (e, name) is) in
          inr (inl (omega (arith, same, body_long, r.begins)))
      apart (suc k) e name is = ⊎_elim (λ (s : k ≡ p). inl (ap suc s)) (λ (other : (e < r.entry) ⊎ (r.after ≤ e)). inr other) (r.apart k e name is)

-- there are as many entries as procedures
as_many : (l : Layout) (code : List ℕ) (n : ℕ) (ps : List Procedure) (es : List ℕ) (p q : ℕ) → ProceduresAt l code n ps es p q → length es ≡ length ps
as_many l code n [] [] p q h = refl
as_many l code n (a ∷ ps) (e ∷ es) p q h = ap suc (as_many l code (suc n) ps es h.1.middle q h.1.then)
as_many l code n [] (e ∷ es) p q h = absurd h
as_many l code n (a ∷ ps) [] p q h = absurd h

pub entries_many : (m : Resolved) (strings entries code : List ℕ) → Translates m strings entries code → length entries ≡ length m.procedures
entries_many m strings entries code t = as_many (layout_of alone strings m) code 1 m.procedures entries t.middle (length code) t.procedures

-- and each lies in the code
low_entries : (l : Layout) (exact : (n : ℕ) → l.target n ≡ n) (code : List ℕ) (n : ℕ) (ps : List Procedure) (es : List ℕ) (p q : ℕ) → ProceduresAt l code n ps es p q → (k d : ℕ) → k < length es → get_or es k d < q
low_entries l exact code n [] [] p q h k d less = absurd (omega (arith, less))
low_entries l exact code n (a ∷ ps) (e ∷ es) p q h zero d less =
    omega (arith, h.0, exact p, framed_long _ _ a.result a.locals (take a.parameters a.locals) a.body p h.1.middle h.1.here, procedures_long l code (suc n) ps es h.1.middle q h.1.then)
low_entries l exact code n (a ∷ ps) (e ∷ es) p q h (suc k) d less = low_entries l exact code (suc n) ps es h.1.middle q h.1.then k d (omega (arith, less))
low_entries l exact code n [] (e ∷ es) p q h k d less = absurd h
low_entries l exact code n (a ∷ ps) [] p q h k d less = absurd h

pub entries_low : (m : Resolved) (strings entries code : List ℕ) → Translates m strings entries code → All (λ e. e < length code) entries
entries_low m strings entries code t k d less = low_entries (layout_of alone strings m) (λ n. refl) code 1 m.procedures entries t.middle (length code) t.procedures k d less
