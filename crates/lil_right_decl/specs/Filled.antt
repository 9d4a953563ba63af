-- The types and names of an interface of a resident module, where they are entered: they are told.
use Rattle.std.proofs.Common.{◌≡◌, ℕ, zero, suc, ◌+◌, ◌<◌, ◌≤◌, true, false, map, List, [], ◌∷◌, ◌++◌, length, slice_get, Option, Some, None, if◌then◌else◌, refl, sym, ap, subst, ◌∙◌, arith, append_assoc, append-nil, true≢false, inl, inr}
use Rattle.std.specs.Prelude.{nat_lt}
use Rattle.std.specs.Cmp.Lexicographic.{bytes_decides}
use Rattle.std.proofs.lemmas.{Bool.Decides.nat_tests, List.length_push, Option.{none-some, same_Some}}
use Rattle.lil_format.specs.declared.name.Wanted.{Wanted}
use Rattle.lil_types.specs.{Types.{Table, entry, facts_of}, Adding.{next, next_facts, fitting, lasting, facts_or, stopped, number_by, with_facts, added, added_number, appended}, declared.table.{Facts.Facts, Origin.Origin, Parameter.Parameter, TypeEntry.TypeEntry, TypeForm.{TypeForm, TheVariants.{Enumeration}}}}
use Rattle.lil_types.specs.Types as types
use Rattle.lil_declared.specs.declared.{declared.{RProc.RProc, RVar.RVar}, standard.Resident.Resident}
use Rattle.lil_declared.specs.declared.standard.Resident.TheVariants as resident
use Rattle.lil_scope.specs.{Names.{Names, same, with_blocks}, declared.{env.Env.Env, thing.Thing.Thing}}
use Rattle.lil_scope.specs.declared.thing.Thing.TheVariants as thing
use Rattle.lil_resolved.specs.declared.resolved.RBase.TheVariants as base
use Rattle.lil_shapes.specs.{ListLaws.AllFine, Pointers.lies_at, ShapeSound.earlier}
use Rattle.lil_interfaces.specs.{declared.{modules.Imported.Imported, surface.{Interface.Interface, Exported.Exported}}, Moving.{moved, moved_parameter, moved_kind, moved_form, seen_by, with_name, with_names}, Standard.known}
use Rattle.lil_interfaces.specs.{Entering.{has_rest, and_rests, place_from, places, and_origins, numbers_in, with_types}, Imports.{rests_with, places_in, origins_with, numbers_with, filled_by}}
use Rattle.lil_right_type.specs.{Types.{IsTold}, Words.AreMeasured, Found.{HasWord, IsSigned, signature, ThingTold}, Homes.{Allowed, bound_many}}
use Rattle.lil_right_sort.specs.{Growth.{all_then, last_there, Few, few_before, Grown, grown_same, grown_more, grown_kept, lies_stays, added_told, added_lies, entry_below, entry_shape, shape_parameters, IsIn, Declared, declared_kept, bound_declared}, Simple.entry_words}
use Rattle.lil_right_decl.specs.{Origins.{counts, moved_counts, IsBefore, news, all_appended, origins_are, numbers_are, types_are}, Shown.{IsOne, AreThere, IsNext, AreFit, IsSignedBy, IsResident, Shown}}

abbrev pub AreTold : Table → Type 0
AreTold t = IsTold t × AreMeasured t

-- ---- types
-- a type more, whatever its facts are
module _ (t : Table) (x : TypeEntry) where
  pushed_grown : Grown t (t ++ x ∷ [])
  pushed_grown n e h = grind (arith, nat_tests, earlier)

  pushed_entry : entry (t ++ x ∷ []) (next t) ≡ Some x
  pushed_entry = grind (arith, nat_tests, last_there t x)

fitting_few : (f : Facts) → fitting (Some f) ≡ Some f → f.words ≤ 32000
fitting_few f is = grind (arith, nat_tests)

-- a type that is told is entered as one of the unit's own is
module _ (t : Table) (o : Origin) (form : TypeForm) (many : ℕ) (new : IsNext t form many) (room : length t < 4294967279) where
  abbrev facts_at : Option Facts → Facts
  facts_at of = facts_or (next t) (lasting of)

  next_is : next_facts t form ≡ Some new.facts
  next_is =
      let room : nat_lt (length t) 4294967279 ≡ true = grind (arith, nat_tests) in
      ap (λ c. if c then fitting (facts_of t (next t) form) else None) room ∙ ap fitting new.is ∙ new.fits

  stopped_is : stopped new.facts.words ≡ new.facts.words
  stopped_is = let few : new.facts.words ≤ 32000 = fitting_few new.facts new.fits in omega arith

  facts_are : facts_at (facts_of t (next t) form) ≡ new.facts
  facts_are = ap facts_at new.is ∙ ap (λ (w : ℕ). types.facts new.facts.base w new.facts.span) stopped_is

  appended_is : appended t o form ≡ added t o form
  appended_is = ap (λ (f : Facts). t ++ record { origin = o; form = form; facts = f } ∷ []) facts_are ∙ sym (ap (with_facts t o form) next_is)

  appended_number : added_number t form ≡ Some (next t)
  appended_number = ap (number_by t) next_is

  module _ (few : Few (appended t o form)) (told : AreTold t) where
    appended_few : Few (added t o form)
    appended_few = subst Few appended_is few

    appended_told : AreTold (appended t o form)
    appended_told = subst AreTold (sym appended_is) (added_told t o form told.0 told.1 new.parts appended_few)

    appended_lies : lies_at (appended t o form) (next t) ≡ true
    appended_lies = subst (λ (u : Table). lies_at u (next t) ≡ true) (sym appended_is) (added_lies t o form told.0 told.1 new.parts appended_few (next t) appended_number)

-- what is there stays there, and one more is
module _ (t u : Table) (told : IsTold t) (grown : Grown t u) (ns : List ℕ) where
  one_stays : (n : ℕ) (e : TypeEntry) → IsOne t ns n e → IsOne u ns n e
  one_stays n e one = record { its = one.its; there = grown (moved ns n) one.its one.there; form = one.form; words = one.words; lies = lies_stays t u told (grown_kept t u grown) (moved ns n) one.lies }

  there_stays : (n : ℕ) (es : Table) → AreThere t ns n es → AreThere u ns n es
  there_stays n [] h = tt
  there_stays n (e ∷ es) h = (one_stays n e h.0, there_stays (n + 1) es h.1)

there_more : (u : Table) (ns : List ℕ) (n m : ℕ) (es : Table) (e : TypeEntry) → m ≡ n + length es → AreThere u ns n es → IsOne u ns m e → AreThere u ns n (es ++ e ∷ [])
there_more u ns n m [] e at h one = (subst (λ (k : ℕ). IsOne u ns k e) (omega (arith, at)) one, tt)
there_more u ns n m (x ∷ es) e at h one = (h.0, there_more u ns (n + 1) m es e (omega (arith, at)) h.1 one)

there_at : (u : Table) (ns : List ℕ) (n i : ℕ) (es : Table) (e : TypeEntry) → AreThere u ns n es → slice_get es i ≡ Some e → IsOne u ns (i + n) e
there_at u ns n i [] e h is = absurd (none-some e is)
there_at u ns n zero (x ∷ es) e h is = subst (λ (k : ℕ). IsOne u ns k e) (omega arith) (subst (IsOne u ns n) (same_Some x e is) h.0)
there_at u ns n (suc i) (x ∷ es) e h is = let same : i + (n + 1) ≡ suc i + n = omega arith in subst (λ (k : ℕ). IsOne u ns k e) same (there_at u ns (n + 1) i es e h.1 is)

-- a table u is t, where some types of an interface stand, with the others at its end
record IsEntered (ns : List ℕ) (t u before es : Table) : Type 0 where
  pub grown : Grown t u
  pub count : length u ≡ length t + length es
  pub told : Few u → AreTold t → AreThere t ns 16 before → AreTold u × AreThere u ns 16 (before ++ es)

module _ (p : ℕ) (ns : List ℕ) (s many : ℕ) (numbers : (i : ℕ) → i < many → moved ns (i + 16) ≡ s + 16 + i) (room : s + many < 4294967279) where
  types_entered : (k : ℕ) (t before es : Table) → length t ≡ s + length before → length before + length es ≡ many → AreFit before es → IsEntered ns t (all_appended p ns k t es) before es
  types_entered k t before [] at all fit = record { grown = grown_same t; count = omega arith; told = λ few told there. (told, subst (AreThere t ns 16) (sym (append-nil before)) there) }
  types_entered k t before (e ∷ es) at all fit =
      let form : TypeForm = moved_form ns e.form in
      let o : Origin = record { «module» = p; number = k } in
      let u : Table = appended t o form in
      let last : Table = all_appended p ns (k + 1) u es in
      let grown : Grown t u = pushed_grown t _ in
      let longer : length u ≡ length t + 1 = length_push t _ in
      let one_more : length (before ++ e ∷ []) ≡ length before + 1 = length_push before e in
      let number : moved ns (length before + 16) ≡ next t = numbers (length before) (omega arith) ∙ omega arith in
      let rest : IsEntered ns u last (before ++ e ∷ []) es = types_entered (k + 1) u (before ++ e ∷ []) es (omega arith) (omega arith) fit.1 in
      record {
        grown = grown_more t u last grown rest.grown;
        count = let count = rest.count in omega arith;
        told = λ few told there.
            let new : IsNext t form e.facts.words = fit.0 t ns there in
            let few_here : Few u = few_before u last rest.grown few in
            let fits : length t < 4294967279 = omega arith in
            let its : TypeEntry = record { origin = o; form = form; facts = facts_or (next t) (lasting (facts_of t (next t) form)) } in
            let one : IsOne u ns (length before + 16) e = record {
              its = its;
              there = ap (entry u) number ∙ pushed_entry t its;
              form = refl;
              words = ap (λ (f : Facts). f.words) (facts_are t o form e.facts.words new fits) ∙ new.words;
              lies = ap (lies_at u) number ∙ appended_lies t o form e.facts.words new fits few_here told;
            } in
            let all = rest.told few (appended_told t o form e.facts.words new fits few_here told) (there_more u ns 16 (length before + 16) before e (omega arith) (there_stays t u told.0 grown ns 16 before there) one) in
            (all.0, subst (AreThere last ns 16) (append_assoc before (e ∷ []) es) all.1);
      }

-- ---- names
-- what is no procedure and no variable of a text, and no module
abbrev IsPlain : Thing → Type 0
IsPlain (thing.Procedure r) = ⊥
IsPlain (thing.Variable v) = ⊥
IsPlain (thing.Module b) = ⊥
IsPlain _ = Unit {0}

plain_allowed : (count : ℕ) (ps : List RProc) (vs : List RVar) (ls : List (List RVar)) (k : ℕ) (x : Thing) → IsPlain x → Allowed count ps vs ls k x
plain_allowed count ps vs ls k (thing.Procedure r) h = h
plain_allowed count ps vs ls k (thing.Variable v) h = absurd h
plain_allowed count ps vs ls k (thing.Module b) h = absurd h
plain_allowed count ps vs ls k _ h = tt

-- headings that are told have but standard types
abbrev IsStandard : List ℕ → Option (List Parameter) → Type 0
IsStandard ns None = Unit {0}
IsStandard ns (Some ps) = map (moved_parameter ns) ps ≡ ps

standard_signature : (ns : List ℕ) (r : Resident) → IsStandard ns (signature r)
standard_signature ns resident.Read = refl
standard_signature ns resident.Write = refl
standard_signature ns resident.WriteString = refl
standard_signature ns resident.WriteLn = refl
standard_signature ns resident.WriteCard = refl
standard_signature ns resident.WriteInt = refl
standard_signature ns resident.WriteOct = refl
standard_signature ns resident.WriteHex = refl
standard_signature ns resident.Allocate = refl
standard_signature ns resident.Deallocate = refl
standard_signature ns resident.NewProcess = refl
standard_signature ns resident.Transfer = refl
standard_signature ns _ = tt

-- the constants of an enumeration
pub enumeration_word : (u : Table) → IsTold u → (n : ℕ) (e : TypeEntry) (names : List (List ℕ)) → entry u n ≡ Some e → e.form ≡ Enumeration names → (w : ℕ) → w < length names → HasWord u n w
enumeration_word u told n e names there form = entry_words u told n e.origin e.facts names (there ∙ ap (λ (f : TypeForm). Some (record { origin = e.origin; form = f; facts = e.facts })) form)

module _ (ns : List ℕ) (s b : ℕ) (types u : Table) (texts : List (List ℕ)) (told : IsTold u) (there : AreThere u ns 16 types) where
  abbrev IsSo : Thing → Type 0
  IsSo x = ThingTold u texts x × (IsIn u x × IsPlain x)

  signed : (n : ℕ) (e : TypeEntry) (form : TypeForm) (o : Option (List Parameter)) → entry u n ≡ Some e → e.form ≡ moved_form ns form → IsStandard ns o → IsSignedBy o form → IsSigned u n o
  signed n e form None at is standard h = tt
  signed n e form (Some ps) at is standard h =
      let p = shape_parameters u n (map (moved_parameter ns) ps) None (entry_shape u told n e at ∙ ap Some (is ∙ ap (moved_form ns) h)) in
      (p.0 ∙ standard, p.1)

  thing_told : (x : Thing) → IsResident types x → IsSo (seen_by ns s b true x)
  thing_told (thing.Constant kind) (inl h) = subst (λ kind. IsSo (thing.Constant (moved_kind ns kind))) (sym h) (((base.Character, refl, refl, refl), tt), (tt, tt))
  thing_told (thing.Constant kind) (inr h) =
      let one = there_at u ns 16 h.at types h.its there h.there in
      let word = enumeration_word u told (moved ns (h.at + 16)) one.its h.names one.there (one.form ∙ ap (moved_form ns) h.form) h.word h.within in
      subst (λ kind. IsSo (thing.Constant (moved_kind ns kind))) (sym h.is) ((word, tt), (tt, tt))
  thing_told (thing.Type n) (inl (inl h)) = subst (λ n. IsSo (thing.Type (moved ns n))) (sym h) (λ so. refl, (tt, tt))
  thing_told (thing.Type n) (inl (inr h)) = subst (λ n. IsSo (thing.Type (moved ns n))) (sym h) (λ so. absurd (true≢false (sym so)), (tt, tt))
  thing_told (thing.Type n) (inr h) =
      let one = there_at u ns 16 h.0 types h.2.0 there h.2.1 in
      subst (λ n. IsSo (thing.Type (moved ns n))) (sym h.1) (λ so. one.lies, (tt, tt))
  thing_told (thing.Resident r n) h =
      let one = there_at u ns 16 h.0 types h.2.0 there h.2.1 in
      let number : ℕ = moved ns (h.0 + 16) in
      subst (λ n. IsSo (thing.Resident r (moved ns n))) (sym h.1) (signed number one.its h.2.0.form (signature r) one.there one.form (standard_signature ns r) h.2.2, (entry_below u number one.its one.there, tt))
  thing_told _ h = absurd h

-- ---- an environment with them
abbrev IsShown : Env → Thing → Type 0
IsShown e x = ThingTold e.types e.texts x × (IsIn e.types x × IsPlain x)

module _ (ns : List ℕ) (s b : ℕ) where
  names_told : (e : Env) (xs : List Exported) → AllFine (λ (x : Exported). IsShown e (seen_by ns s b x.shown x.what)) xs → Declared e → Declared (with_blocks e (with_names ns s b e.scopes.blocks xs))
  unfolding with_name
  names_told e [] all h = h
  names_told e (x ∷ xs) all h =
      names_told (with_blocks e (with_name ns s b e.scopes.blocks x)) xs all.1
      (bound_declared e h b x.name (known (seen_by ns s b x.shown x.what)) (all.0.0, (all.0.1.0, plain_allowed (length e.scopes.blocks) e.procedures e.variables e.locals b (seen_by ns s b x.shown x.what) all.0.1.1)))

  -- there are as many blocks
  names_many : (bs : List Names) (xs : List Exported) → length (with_names ns s b bs xs) ≡ length bs
  unfolding with_name
  names_many bs [] = refl
  names_many bs (x ∷ xs) = names_many (with_name ns s b bs x) xs ∙ bound_many bs b x.name (known (seen_by ns s b x.shown x.what))

-- ---- an interface whose module isn't entered yet
pub rest_more : (ws : List Wanted) (w : Wanted) (n : List ℕ) → has_rest ws n ≡ false → same n w.name ≡ false → has_rest (ws ++ w ∷ []) n ≡ false
rest_more [] w n new other = grind arith
rest_more (x ∷ ws) w n new other = grind (arith, rest_more ws w n)

-- the place of its module
place_is : (k : ℕ) (ws : List Wanted) (w : Wanted) (n : List ℕ) → has_rest ws n ≡ false → same n w.name ≡ true → place_from k (ws ++ w ∷ []) n ≡ length ws + k
place_is k [] w n new itself = grind arith
place_is k (x ∷ ws) w n new itself = grind (arith, place_is (k + 1) ws w n)

all_below : (p : ℕ) (os : List Origin) → AllFine (λ (o : Origin). o.«module» < p) os → AllFine (IsBefore p 16) os
all_below p os h = all_then (λ (o : Origin). o.«module» < p) (IsBefore p 16) (λ o less. inl less) os h

module _ (b : ℕ) (s : Imported) (i : Interface) (shown : Shown i) (new : has_rest s.rests i.name ≡ false) (below : AllFine (λ (o : Origin). o.«module» < length s.rests + 1) s.origins) (count : length s.origins ≡ length s.env.types)
    (room : length s.env.types + length i.types < 4294967279) where
  abbrev its : Wanted
  its = record { name = i.name; key = i.key }

  abbrev place : ℕ
  place = length s.rests + 1

  abbrev pub numbers : List ℕ
  numbers = counts (length s.env.types + 16) i.types

  abbrev types_so : Table
  types_so = all_appended place numbers 16 s.env.types i.types

  abbrev pub filled_so : Imported
  filled_so = record s {
    env = record s.env { scopes = record s.env.scopes { blocks = with_names numbers (length s.env.texts) b s.env.scopes.blocks i.names }; types = types_so };
    rests = s.rests ++ its ∷ [];
    origins = s.origins ++ news place 16 i.types;
  }

  rests_are : rests_with b s i ≡ s.rests ++ its ∷ []
  rests_are = ap (λ vs. and_rests s.rests (its ∷ vs)) shown.rests ∙ ap (λ c. if c then s.rests else s.rests ++ its ∷ []) new

  places_are : places_in b s i ≡ place ∷ []
  places_are =
      (λ j. places (rests_are j) (its ∷ shown.rests j))
      ∙ ap (λ (n : ℕ). n ∷ []) (place_is 1 s.rests its i.name new ((bytes_decides i.name i.name).1 refl))

  before : AllFine (IsBefore place 16) s.origins
  before = all_below place s.origins below

  origins_so : origins_with b s i ≡ s.origins ++ news place 16 i.types
  origins_so = (λ j. and_origins (places_are j) s.origins i.types) ∙ origins_are place 16 s.origins i.types shown.own before

  numbers_so : numbers_with b s i ≡ numbers
  numbers_so =
      (λ j. numbers_in (places_are j) (origins_with b s i) i.types)
      ∙ numbers_are place (origins_with b s i) 16 (length s.env.types + 16) s.origins i.types (omega (arith, count)) origins_so shown.own before (omega (arith, count))

  types_are_so : with_types (places_in b s i) (origins_with b s i) (numbers_with b s i) s.env.types i.types ≡ types_so
  types_are_so =
      (λ j. with_types (places_are j) (origins_with b s i) (numbers_so j) s.env.types i.types)
      ∙ types_are place (origins_with b s i) numbers 16 s.origins s.env.types i.types (sym count) origins_so shown.own before (omega (arith, count))

  texts_are : s.env.texts ++ i.texts ≡ s.env.texts
  texts_are = ap (λ ts. s.env.texts ++ ts) shown.texts ∙ append-nil s.env.texts

  pub filled_is : filled_by b s i ≡ filled_so
  unfolding filled_by
  filled_is = λ j. record s {
    env = record s.env { scopes = record s.env.scopes { blocks = with_names (numbers_so j) (length s.env.texts) b s.env.scopes.blocks i.names }; types = types_are_so j; texts = texts_are j };
    rests = rests_are j;
    origins = origins_so j;
  }

  into : IsEntered numbers s.env.types types_so [] i.types
  into = types_entered place numbers (length s.env.types) (length i.types) (λ j h. moved_counts (length s.env.types + 16) i.types j h) room 16 s.env.types [] i.types (omega arith) (omega arith) shown.types

  pub filled_count : length filled_so.env.types ≡ length s.env.types + length i.types
  filled_count = into.count

  pub filled_blocks : length filled_so.env.scopes.blocks ≡ length s.env.scopes.blocks
  filled_blocks = names_many numbers (length s.env.texts) b s.env.scopes.blocks i.names

  pub filled_told : (Few s.env.types → Declared s.env) → Few filled_so.env.types → Declared filled_so.env
  filled_told h few =
      let before : Declared s.env = h (few_before s.env.types types_so into.grown few) in
      let told = into.told few (before.told.types, before.told.words) tt in
      names_told numbers (length s.env.texts) b (record s.env { types = types_so }) i.names
      (all_then _ _
      (λ (x : Exported) is. subst (λ c. IsShown (record s.env { types = types_so }) (seen_by numbers (length s.env.texts) b c x.what)) (sym is.0)
      (thing_told numbers (length s.env.texts) b i.types types_so s.env.texts told.0.0 told.1 x.what is.1)) i.names shown.names)
      (declared_kept s.env before types_so (grown_kept s.env.types types_so into.grown) told.0.0 told.0.1)
