-- For every format: what is read is spelled so to the last byte, and what is spelled so is read, whatever follows.
use Rattle.std.proofs.Common.{◌≡◌, ℕ, zero, suc, ◌<◌, Bool, true, false, List, [], ◌∷◌, ◌++◌, length, Some, Result, Ok, Err, refl, sym, ap, subst, ◌∙◌, append_assoc}
use Rattle.std.specs.Prelude.{◌==◌, IfOk}
use Rattle.std.specs.Cmp.Lexicographic.{bytes_decides}
use Rattle.std.proofs.lemmas.Bool.{eqb-true, eq-eqb}
use Rattle.std.proofs.lemmas.List.{append-nil}
use Rattle.lil_base.specs.declared.fault.FormatStop.{FormatStop}
use Rattle.lil_format.specs.declared.stop.Stop.TheVariants.{Left, Memory}
use Rattle.lil_format.specs.Reading.{Outcome, Parser, and_then, such, Width, limit, number_bytes, number_in, run_in, many, whole, ended, ReadsFile}
use Rattle.lil_format.specs.FieldLaws.{AllBytes, bytes_left, ok_is, moved, then_ok, such_some, such_kept, number_in_takes, number_in_again, run_in_takes, run_in_again, text_takes, text_again}
use Rattle.lil_format.specs.Format.{Format, give, number, text, ◌▸◌, ◌>>=◌, list, cases, shape, same, each_fits, each_spelled, Fits, spelling, IsFile, nothing, letters_in, tagged, reads}

-- a rule's number is that of a field that was read by it
field_such : (w : Width) (ok : ℕ → Bool) (bs : List ℕ) (n : ℕ) (rest : List ℕ) → AllBytes bs → number_in w (such ok) bs ≡ Ok (n, rest) → (ok n ≡ true) × (n < limit w) × (bs ≡ number_bytes w n ++ rest)
field_such w ok bs n rest h e =
    let t = number_in_takes w (such ok) bs n rest h e in
    let s = such_some ok t.0 n t.1 in
    subst (λ (k : ℕ). (ok k ≡ true) × (k < limit w) × (bs ≡ number_bytes w k ++ rest)) s.1 (s.0, t.2, t.3)

-- bytes in two parts, the second of which is itself in two
behind : (bs front mid part rest : List ℕ) → bs ≡ front ++ mid → mid ≡ part ++ rest → bs ≡ (front ++ part) ++ rest
behind bs front mid part rest e k = e ∙ ap (λ (xs : List ℕ). front ++ xs) k ∙ sym (append_assoc front part rest)

-- ---- several parts, one after another
module _ {A : Type 0} (read : List A → Parser A) (fits : List A → A → Type 0) (spell : List A → A → List ℕ) where
  abbrev pub TakesEach : Type 0
  TakesEach = (done : List A) (bs : List ℕ) (a : A) (rest : List ℕ) → AllBytes bs → read done bs ≡ Ok (a, rest) → fits done a × (bs ≡ spell done a ++ rest)

  abbrev pub AgainEach : Type 0
  AgainEach = (done : List A) (a : A) (rest : List ℕ) → fits done a → read done (spell done a ++ rest) ≡ Ok (a, rest)

  abbrev pub TookMany : ℕ → List A → List ℕ → List A → List ℕ → Type 0
  TookMany n done bs all rest = (xs : List A) × (all ≡ done ++ xs) × (length xs ≡ n) × each_fits fits done xs × (bs ≡ each_spelled spell done xs ++ rest)

  pub many_takes : TakesEach → (n : ℕ) (done : List A) (bs : List ℕ) (all : List A) (rest : List ℕ) → AllBytes bs → many read n done bs ≡ Ok (all, rest) → TookMany n done bs all rest
  unfolding many
  many_takes each zero done bs all rest h e = moved (TookMany 0 done bs) done all bs rest e ([], sym (append-nil done), refl, tt, refl)
  many_takes each (suc n) done bs all rest h e =
      let a = then_ok (read done bs) (λ a. many read n (done ++ a ∷ [])) all rest e in
      let one = each done bs a.0 a.1 h a.2 in
      let k = many_takes each n (done ++ a.0 ∷ []) a.1 all rest (bytes_left bs (spell done a.0) a.1 h one.1) a.3 in (
        a.0 ∷ k.0,
        k.1 ∙ append_assoc done (a.0 ∷ []) k.0,
        ap suc k.2,
        (one.0, k.3),
        behind bs (spell done a.0) a.1 (each_spelled spell (done ++ a.0 ∷ []) k.0) rest one.1 k.4,
      )

  pub many_again : AgainEach → (done xs : List A) (rest : List ℕ) → each_fits fits done xs → many read (length xs) done (each_spelled spell done xs ++ rest) ≡ Ok (done ++ xs, rest)
  unfolding many
  many_again each done [] rest h = ap (λ (all : List A). Ok (all, rest)) (sym (append-nil done))
  many_again each done (a ∷ xs) rest h =
      let next : List A = done ++ a ∷ [] in
      let tail : List ℕ = each_spelled spell next xs in
      ap (many read (length (a ∷ xs)) done) (append_assoc (spell done a) tail rest)
      ∙ ap (λ (o : Outcome A). and_then o (λ a. many read (length xs) (done ++ a ∷ []))) (each done a (tail ++ rest) h.0)
      ∙ many_again each next xs rest h.1
      ∙ ap (λ (all : List A). Ok (all, rest)) (append_assoc done (a ∷ []) xs)

-- ---- what is read is spelled so
abbrev pub Took : {A : Type 0} → Format A → List ℕ → A → List ℕ → Type 0
Took f bs a rest = Fits f a × (bs ≡ spelling f a ++ rest)

tagged_ok : {A : Type 0} (b : Bool) (x a : A) (mid rest : List ℕ) → tagged b x mid ≡ Ok (a, rest) → (b ≡ true) × (tagged true x mid ≡ Ok (a, rest))
tagged_ok true x a mid rest e = (refl, e)
tagged_ok false x a mid rest e = absurd cc

letters_take : (front bs rest : List ℕ) (u : Unit {0}) → letters_in front bs ≡ Ok (u, rest) → bs ≡ front ++ rest
letters_take front bs rest u e =
    let o = then_ok (run_in (length front) (same front) bs) (λ run rest. Ok (nothing, rest)) u rest e in
    let r = run_in_takes (length front) (same front) bs o.0 o.1 o.2 in
    let is : front ≡ o.0 = (bytes_decides front o.0).0 r.0 in
    moved (λ (u : Unit {0}) (z : List ℕ). bs ≡ front ++ z) nothing u o.1 rest o.3 (r.2 ∙ ap (λ (x : List ℕ). x ++ o.1) (sym is))

letters_again : (front rest : List ℕ) → letters_in front (front ++ rest) ≡ Ok (nothing, rest)
letters_again front rest = ap (λ o. and_then o (λ run rest. Ok (nothing, rest))) (run_in_again (same front) front rest ((bytes_decides front front).1 refl))

pub takes : {A : Type 0} (f : Format A) (bs : List ℕ) (a : A) (rest : List ℕ) → AllBytes bs → reads f bs ≡ Ok (a, rest) → Took f bs a rest
unfolding reads Fits spelling
takes (give x) bs a rest h e = moved (Took (give x) bs) x a bs rest e (refl, refl)
takes (number w value code law) bs a rest h e =
    let n = number_in_takes w value bs a rest h e in
    subst (λ (k : ℕ). ((value k ≡ Some a) × (k < limit w)) × (bs ≡ number_bytes w k ++ rest)) (sym (law n.0 a n.2 n.1)) ((n.1, n.2), n.3)
takes (text w long ok) bs a rest h e = text_takes w long ok bs a rest h e
takes (front ▸ f) bs a rest h e =
    let u = then_ok (letters_in front bs) (λ u. reads f) a rest e in
    let first = letters_take front bs u.1 u.0 u.2 in
    let k = takes f u.1 a rest (bytes_left bs front u.1 h first) u.3 in
    (k.0, behind bs front u.1 (spelling f a) rest first k.1)
takes (f >>= g) bs ab rest h e =
    let a = then_ok (reads f bs) (λ a mid. and_then (reads (g a) mid) (λ b r. Ok ((a, b), r))) ab rest e in
    let b = then_ok (reads (g a.0) a.1) (λ b r. Ok ((a.0, b), r)) ab rest a.3 in
    let first = takes f bs a.0 a.1 h a.2 in
    let second = takes (g a.0) a.1 b.0 b.1 (bytes_left bs (spelling f a.0) a.1 h first.1) b.2 in
    moved (Took (f >>= g) bs) (a.0, b.0) ab b.1 rest b.3 ((first.0, second.0), behind bs (spelling f a.0) a.1 (spelling (g a.0) b.0) b.1 first.1 second.1)
takes (list {A = B} w long each) bs all rest h e =
    let c = then_ok (number_in w (such long) bs) (λ n. many (λ done. reads (each n done)) n []) all rest e in
    let count : ℕ = c.0 in
    let n = field_such w long bs count c.1 h c.2 in
    let k = many_takes (λ done. reads (each count done)) (λ done. Fits (each count done)) (λ done. spelling (each count done)) (λ done bs a rest h e. takes (each count done) bs a rest h e)
    count [] c.1 all rest (bytes_left bs (number_bytes w count) c.1 h n.2) c.3 in
    let xs : List B = k.0 in
    let parts : List ℕ = each_spelled (λ done. spelling (each count done)) [] xs in
    let sized = subst (λ (q : ℕ). ((long q ≡ true) × (q < limit w) × each_fits (λ done. Fits (each q done)) [] xs) × (bs ≡ (number_bytes w q ++ each_spelled (λ done. spelling (each q done)) [] xs) ++ rest)) (sym k.2)
    ((n.0, n.1, k.3), behind bs (number_bytes w count) c.1 parts rest n.2 k.4) in
    subst (λ (zs : List B). Took (list w long each) bs zs rest) (sym k.1) sized
takes (cases w ok tag arm) bs a rest h e =
    let c = then_ok (number_in w (such ok) bs) (λ n mid. and_then (reads (arm n) mid) (λ a. tagged (tag a == n) a)) a rest e in
    let n = field_such w ok bs c.0 c.1 h c.2 in
    let b = then_ok (reads (arm c.0) c.1) (λ a. tagged (tag a == c.0) a) a rest c.3 in
    let t = tagged_ok (tag b.0 == c.0) b.0 a b.1 rest b.3 in
    let k = takes (arm c.0) c.1 b.0 b.1 (bytes_left bs (number_bytes w c.0) c.1 h n.2) b.2 in
    moved (Took (cases w ok tag arm) bs) b.0 a b.1 rest t.1
    (subst (λ (k : ℕ). ((ok k ≡ true) × (k < limit w) × Fits (arm k) b.0) × (bs ≡ (number_bytes w k ++ spelling (arm k) b.0) ++ b.1)) (sym (eqb-true (tag b.0) c.0 t.0))
    ((n.0, n.1, k.0), behind bs (number_bytes w c.0) c.1 (spelling (arm c.0) b.0) b.1 n.2 k.1))
takes (shape to back law f) bs b rest h e =
    let a = then_ok (reads f bs) (λ a rest. Ok (to a, rest)) b rest e in
    let k = takes f bs a.0 a.1 h a.2 in
    moved (Took (shape to back law f) bs) (to a.0) b a.1 rest a.3
    (subst (λ x. ((to x ≡ to a.0) × Fits f x) × (bs ≡ spelling f x ++ a.1)) (sym (law a.0)) ((refl, k.0), k.1))

-- ---- what is spelled so is read
pub again : {A : Type 0} (f : Format A) (a : A) (rest : List ℕ) → Fits f a → reads f (spelling f a ++ rest) ≡ Ok (a, rest)
unfolding reads Fits spelling
again (give x) a rest h = ap (λ z. Ok (z, rest)) (sym h)
again (number w value code law) a rest h = number_in_again w value (code a) a rest h.0
again (text w long ok) t rest h = text_again w long ok t rest h.0 h.2
again (front ▸ f) a rest h =
    ap (reads (front ▸ f)) (append_assoc front (spelling f a) rest)
    ∙ ap (λ o. and_then o (λ u. reads f)) (letters_again front (spelling f a ++ rest))
    ∙ again f a rest h
again (f >>= g) ab rest h =
    ap (reads (f >>= g)) (append_assoc (spelling f ab.0) (spelling (g ab.0) ab.1) rest)
    ∙ ap (λ o. and_then o (λ a mid. and_then (reads (g a) mid) (λ b r. Ok ((a, b), r)))) (again f ab.0 (spelling (g ab.0) ab.1 ++ rest) h.0)
    ∙ ap (λ o. and_then o (λ b r. Ok ((ab.0, b), r))) (again (g ab.0) ab.1 rest h.1)
again (list w long each) xs rest h =
    let n : ℕ = length xs in
    let parts : List ℕ = each_spelled (λ done. spelling (each n done)) [] xs in
    ap (reads (list w long each)) (append_assoc (number_bytes w n) parts rest)
    ∙ ap (λ o. and_then o (λ n. many (λ done. reads (each n done)) n [])) (number_in_again w (such long) n n (parts ++ rest) (such_kept long n h.0))
    ∙ many_again (λ done. reads (each n done)) (λ done. Fits (each n done)) (λ done. spelling (each n done)) (λ done a rest h. again (each n done) a rest h) [] xs rest h.2
again (cases w ok tag arm) a rest h =
    ap (reads (cases w ok tag arm)) (append_assoc (number_bytes w (tag a)) (spelling (arm (tag a)) a) rest)
    ∙ ap (λ o. and_then o (λ n mid. and_then (reads (arm n) mid) (λ x. tagged (tag x == n) x))) (number_in_again w (such ok) (tag a) (tag a) (spelling (arm (tag a)) a ++ rest) (such_kept ok (tag a) h.0))
    ∙ ap (λ o. and_then o (λ x. tagged (tag x == tag a) x)) (again (arm (tag a)) a rest h.2)
    ∙ ap (λ (b : Bool). tagged b a rest) (eq-eqb (tag a) (tag a) refl)
again (shape to back law f) b rest h =
    ap (λ o. and_then o (λ a rest. Ok (to a, rest))) (again f (back b) rest h.1)
    ∙ ap (λ x. Ok (x, rest)) h.0

-- ---- whole files
module _ {A : Type 0} (f : Format A) where
  ended_is : (n : ℕ) (x a : A) → ended n x [] ≡ Ok a → x ≡ a
  ended_is n x a e = cc

  ended_found : (bs : List ℕ) (x a : A) (rest : List ℕ) → Took f bs x rest → ended (length bs) x rest ≡ Ok a → IsFile f bs a
  ended_found bs x a [] h e = subst (IsFile f bs) (ended_is (length bs) x a e) (h.0, h.1 ∙ append-nil (spelling f x))
  ended_found bs x a (r ∷ rest) h e = absurd cc

  whole_found : (bs : List ℕ) (o : Outcome A) (a : A) → AllBytes bs → reads f bs ≡ o → whole bs o ≡ Ok a → IsFile f bs a
  whole_found bs (Ok got) a h e w = ended_found bs got.0 a got.1 (takes f bs got.0 got.1 h e) w
  whole_found bs (Err (Left n)) a h e w = absurd cc
  whole_found bs (Err Memory) a h e w = absurd cc

  pub file_found : (bs : List ℕ) (a : A) → AllBytes bs → whole bs (reads f bs) ≡ Ok a → IsFile f bs a
  file_found bs a h e = whole_found bs (reads f bs) a h refl e

  -- a spelling that ends the file
  pub read_whole : (a : A) → Fits f a → reads f (spelling f a) ≡ Ok (a, [])
  read_whole a h = ap (reads f) (sym (append-nil (spelling f a))) ∙ again f a [] h

  pub file_again : (a : A) → Fits f a → whole (spelling f a) (reads f (spelling f a)) ≡ Ok a
  file_again a h = ap (whole (spelling f a)) (read_whole a h)

  pub file_only : (bs : List ℕ) (a : A) → IsFile f bs a → whole bs (reads f bs) ≡ Ok a
  file_only bs a h = subst (λ (x : List ℕ). whole x (reads f x) ≡ Ok a) (sym h.1) (file_again a h.0)

  -- no spelling is that of another value, and none begins another
  pub one_spelling : (a b : A) (x y : List ℕ) → Fits f a → Fits f b → spelling f a ++ x ≡ spelling f b ++ y → (a ≡ b) × (x ≡ y)
  one_spelling a b x y h k e =
      let both = ok_is (a, x) (b, y) (sym (again f a x h) ∙ ap (reads f) e ∙ again f b y k) in
      (ap (λ (z : A × List ℕ). z.0) both, ap (λ (z : A × List ℕ). z.1) both)

  -- the clauses of a function that reads a file follow from the one with its offset
  pub is_found : (bs : List ℕ) (r : Result A FormatStop) → AllBytes bs → ReadsFile (whole bs (reads f bs)) r → IfOk r (λ a. IsFile f bs a)
  is_found bs (Ok a) h e = file_found bs a h e
  is_found bs (Err stop) h e = tt

  pub is_only : (bs : List ℕ) (r : Result A FormatStop) → ReadsFile (whole bs (reads f bs)) r → (a : A) → IsFile f bs a → ReadsFile (Ok a) r
  is_only bs r e a h = subst (λ (o : Result A ℕ). ReadsFile o r) (file_only bs a h) e
