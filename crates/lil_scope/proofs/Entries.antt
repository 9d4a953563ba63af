-- A block, and the names of its types, as an indexmap has them.
use Rattle.std.proofs.Common.{arith, ◌≡◌, ℕ, suc, ◌+◌, Bool, true, false, not, ◌||◌, ◌&&◌, cond, if◌then◌else◌, List, [], ◌∷◌, ◌++◌, length, map, position, Option, Some, None, is_some, is_none, refl, ap, ◌∙◌, nat_eq, nat_lt}
use Rattle.std.proofs.lemmas.{List.{map-append}, Bool.{and_parts, and_from}}
use Rattle.indexmap.specs.{IndexMap.{insert_entry, set_value_at}, IndexSet.insert_key}
use Rattle.std.specs.{Cmp.Lexicographic.pointwise, List.{list_any, position_or_len}, Map.{lookup, keys_of}, declared.{vec.Vec.Vec, alloc.Global.Global}}
use Rattle.lil_scope.specs.{declared.thing.Entry.Entry, Names.{entry_in, place_of, place_in, same, is_new, bound, rebound, is_among, and_name, are_names}}
use Rattle.lil_base.specs.Names.{is_name}

pub look_map : (n : List ℕ) (es : List (Vec ℕ Global × Entry)) → lookup (λ k. pointwise nat_eq n k.items) es ≡ entry_in (map (λ p. (p.0.items, p.1)) es) n
look_map n [] = refl
look_map n (e ∷ es) = λ j. cond (same n e.0.items) (Some e.1) (look_map n es j)

abbrev pub see : Vec ℕ Global × Entry → List ℕ × Entry
see p = (p.0.items, p.1)

-- a new name goes last
pub insert_map : (k : Vec ℕ Global) (t : Entry) (es : List (Vec ℕ Global × Entry)) → entry_in (map see es) k.items ≡ None
    → map see (insert_entry (λ a b. pointwise nat_eq a.items b.items) es k t) ≡ map see es ++ (k.items, t) ∷ []
insert_map k t [] h = refl
insert_map k t (e ∷ es) h = by (same k.items e.0.items) h (λ g. insert_map k t es g)
  where
    by : (b : Bool) → cond b (Some e.1) (entry_in (map see es) k.items) ≡ None
        → (entry_in (map see es) k.items ≡ None → map see (insert_entry (λ a b. pointwise nat_eq a.items b.items) es k t) ≡ map see es ++ (k.items, t) ∷ [])
        → map see (cond b ((e.0, t) ∷ es) (e ∷ insert_entry (λ a b. pointwise nat_eq a.items b.items) es k t)) ≡ see e ∷ (map see es ++ (k.items, t) ∷ [])
    by true h rest = absurd (cc)
    by false h rest = ap (λ z. see e ∷ z) (rest h)

-- ---- names that stand in a block, and new ones
pub bound_before : (b : List (List ℕ × Entry)) (n : List ℕ) (e f : Entry) → entry_in b n ≡ Some f → b ≡ bound b n e
unfolding is_new
bound_before b n e f h = rw h refl

pub bound_new : (b : List (List ℕ × Entry)) (n : List ℕ) (e : Entry) → entry_in b n ≡ None → b ++ (n, e) ∷ [] ≡ bound b n e
unfolding is_new
bound_new b n e h = rw h refl

twice_by : (o : Option Entry) → is_some (place_of o) ≡ not (is_none o)
twice_by None = refl
twice_by (Some e) = refl

pub is_twice : (b : List (List ℕ × Entry)) (n : List ℕ) → is_some (place_in b n) ≡ not (is_new b n)
unfolding is_new
is_twice b n = twice_by (entry_in b n)

-- ---- the names of types that are declared later
abbrev pub bytes : Vec ℕ Global → List ℕ
bytes n = n.items

pub among_map : (n : List ℕ) (ks : List (Vec ℕ Global)) → list_any (λ k. pointwise nat_eq n k.items) ks ≡ is_among (map bytes ks) n
among_map n [] = refl
among_map n (k ∷ ks) = λ j. same n k.items || among_map n ks j

pub add_map : (k : Vec ℕ Global) (ks : List (Vec ℕ Global)) → map bytes (insert_key (λ a b. pointwise nat_eq a.items b.items) ks k) ≡ and_name (map bytes ks) k.items
add_map k ks = by (list_any (λ b. pointwise nat_eq k.items b.items) ks) (among_map k.items ks)
  where
    names : List (List ℕ)
    names = map bytes ks

    by : (c : Bool) → c ≡ is_among names k.items → map bytes (if c then ks else ks ++ k ∷ []) ≡ and_name names k.items
    by true is = ap (λ c. if c then names else names ++ k.items ∷ []) is
    by false is = map-append bytes ks (k ∷ []) ∙ ap (λ c. if c then names else names ++ k.items ∷ []) is

-- ---- names of a block
pub names_more : (b : List (List ℕ × Entry)) (n : List ℕ) (e : Entry) → are_names b ≡ true → is_name n ≡ true → are_names (bound b n e) ≡ true
unfolding is_new
names_more b n e h k = by (is_none (entry_in b n))
  where
    behind : (b : List (List ℕ × Entry)) → are_names b ≡ true → are_names (b ++ (n, e) ∷ []) ≡ true
    behind [] g = and_from (is_name n) true k refl
    behind (x ∷ xs) g = let p = and_parts (is_name x.0) (are_names xs) g in and_from (is_name x.0) (are_names (xs ++ (n, e) ∷ [])) p.0 (behind xs p.1)

    by : (c : Bool) → are_names (if c then b ++ (n, e) ∷ [] else b) ≡ true
    by true = behind b h
    by false = h

-- a new name put into an index
pub names_kept : (k : Vec ℕ Global) (t : Entry) (es : List (Vec ℕ Global × Entry)) → entry_in (map see es) k.items ≡ None → is_name k.items ≡ true
    → are_names (map see es) ≡ true → are_names (map see (insert_entry (λ a b. pointwise nat_eq a.items b.items) es k t)) ≡ true
names_kept k t es new name all =
    ap are_names (insert_map k t es new ∙ bound_new (map see es) k.items t new) ∙ names_more (map see es) k.items t all name

-- ---- names that stand for another thing
-- in an index, by the place of the name; behind all of them nothing changes
pub rebound_first : (n : List ℕ) (x : Entry) (es : List (Vec ℕ Global × Entry))
    → map see (set_value_at es (position_or_len (λ k. pointwise nat_eq n k.items) (keys_of es)) x) ≡ rebound (map see es) n x
rebound_first n x [] = refl
rebound_first n x (e ∷ es) = by (same n e.0.items) (rebound_first n x es)
  where
    behind : ℕ
    behind = position_or_len (λ k. pointwise nat_eq n k.items) (keys_of es)

    by : (b : Bool) → map see (set_value_at es behind x) ≡ rebound (map see es) n x
        → map see (set_value_at (e ∷ es) (cond (not b) (1 + behind) 0) x) ≡ cond b ((e.0.items, x) ∷ map see es) (see e ∷ rebound (map see es) n x)
    by true rest = refl
    by false rest =
        let next : 1 + behind ≡ suc behind = omega arith in
        ap (λ i. map see (set_value_at (e ∷ es) i x)) next ∙ ap (λ z. see e ∷ z) rest

pub rebound_map : (n : List ℕ) (x : Entry) (es : List (Vec ℕ Global × Entry)) (i : ℕ) → Some i ≡ position (λ k. pointwise nat_eq n k.items) (keys_of es)
    → map see (set_value_at es i x) ≡ rebound (map see es) n x
rebound_map n x es i h = ap (λ k. map see (set_value_at es k x)) (place (nat_lt first (length (keys_of es))) h) ∙ rebound_first n x es
  where
    first : ℕ
    first = position_or_len (λ k. pointwise nat_eq n k.items) (keys_of es)

    place : (c : Bool) → Some i ≡ cond c (Some first) None → i ≡ first
    place true is = cc
    place false is = absurd (cc)

-- one that doesn't stand there changes nothing
pub rebound_none : (b : List (List ℕ × Entry)) (n : List ℕ) (x : Entry) → entry_in b n ≡ None → b ≡ rebound b n x
rebound_none [] n x h = refl
rebound_none (e ∷ es) n x h = by (same n e.0) h (rebound_none es n x)
  where
    by : (c : Bool) → cond c (Some e.1) (entry_in es n) ≡ None → (entry_in es n ≡ None → es ≡ rebound es n x) → e ∷ es ≡ cond c ((e.0, x) ∷ es) (e ∷ rebound es n x)
    by true is rest = absurd (cc)
    by false is rest = ap (λ z. e ∷ z) (rest is)

pub names_rebound : (b : List (List ℕ × Entry)) (n : List ℕ) (x : Entry) → are_names (rebound b n x) ≡ are_names b
names_rebound [] n x = refl
names_rebound (e ∷ es) n x = by (same n e.0) (names_rebound es n x)
  where
    by : (c : Bool) → are_names (rebound es n x) ≡ are_names es → are_names (if c then (e.0, x) ∷ es else e ∷ rebound es n x) ≡ are_names (e ∷ es)
    by true rest = refl
    by false rest = ap (λ c. is_name e.0 && c) rest

pub none_as : {A B : Type 0} (o : Option A) (p : Option B) → o ≡ None → is_some o ≡ is_some p → p ≡ None
none_as o None none is = refl
none_as o (Some b) none is = absurd (cc)
