-- A field that is read has these bytes, and from these bytes it is read again.
use Rattle.std.proofs.Common.{◌≡◌, ℕ, suc, ◌+◌, ◌*◌, ◌/◌, ◌%◌, ◌<◌, ◌≤◌, Bool, true, false, ltb, List, [], ◌∷◌, ◌++◌, length, get_or, take, drop, Option, Some, None, Result, Ok, Err, refl, sym, ap, subst, ◌∙◌, append_assoc, arith, length-append, length-take}
use Rattle.std.specs.Prelude.{⊤, if◌then◌else◌, ◌==◌}
use Rattle.std.proofs.lemmas.Bool.{ltb-false, le-ltb, eqb-true}
use Rattle.std.proofs.lemmas.List.{take_at, drop_at, take-append-drop}
use Rattle.lil_base.specs.Fields.{bytes16, bytes32}
use Rattle.lil_format.specs.declared.stop.Stop.{Stop}
use Rattle.lil_format.specs.Reading.{Outcome, Parser, and_then, ruled, field, such, Width, u1, u2, u4, limit, number_bytes, number_of, run_of, number_in, run_in, text_in}

-- ---- numbers that are bytes
abbrev pub AllBytes : List ℕ → Type 0
AllBytes [] = ⊤
AllBytes (b ∷ bs) = (b < 256) × AllBytes bs

pub all_bytes : (bs : List ℕ) → ((i : ℕ) → get_or bs i 0 < 256) → AllBytes bs
all_bytes [] h = tt
all_bytes (b ∷ bs) h = (h 0, all_bytes bs (λ i. h (suc i)))

behind : (xs ys : List ℕ) → AllBytes (xs ++ ys) → AllBytes ys
behind [] ys h = h
behind (x ∷ xs) ys h = behind xs ys h.1

pub bytes_left : (bs xs ys : List ℕ) → AllBytes bs → bs ≡ xs ++ ys → AllBytes ys
bytes_left bs xs ys h e = behind xs ys (subst AllBytes e h)

-- ---- what stands in a result
abbrev pub went : {A : Type 0} → A → Result A Stop
went a = Ok a

pub ok_is : {A : Type 0} (x y : A) → went x ≡ went y → x ≡ y
ok_is x y e = cc

some_is : {A : Type 0} (x y : A) → Some x ≡ Some y → x ≡ y
some_is x y e = cc

-- what holds of a value and the bytes behind it holds of those that the same result gives
pub moved : {A : Type 0} (P : A → List ℕ → Type 0) (x a : A) (mid rest : List ℕ) → went {A = A × List ℕ} (x, mid) ≡ went {A = A × List ℕ} (a, rest) → P x mid → P a rest
moved {A} P x a mid rest e h = subst (λ (z : A × List ℕ). P z.0 z.1) (ok_is (x, mid) (a, rest) e) h

pub then_ok : {A B : Type 0} (o : Outcome A) (next : A → Parser B) (b : B) (rest : List ℕ) → and_then o next ≡ Ok (b, rest) → (a : A) × (mid : List ℕ) × (o ≡ Ok (a, mid)) × (next a mid ≡ Ok (b, rest))
then_ok (Ok got) next b rest e = (got.0, got.1, refl, e)
then_ok (Err stop) next b rest e = absurd cc

-- ---- values that keep a rule, and values by a table
some_if : {A : Type 0} (b : Bool) (x a : A) → (if b then Some x else None) ≡ Some a → (b ≡ true) × (x ≡ a)
some_if true x a e = (refl, some_is x a e)
some_if false x a e = absurd cc

pub such_some : {A : Type 0} (ok : A → Bool) (x a : A) → such ok x ≡ Some a → (ok x ≡ true) × (x ≡ a)
such_some ok x a e = some_if (ok x) x a e

pub such_kept : {A : Type 0} (ok : A → Bool) (a : A) → ok a ≡ true → such ok a ≡ Some a
such_kept {A} ok a h = ap (λ (b : Bool). if b then Some a else None) h

abbrev pub coded_by : {A : Type 0} → List (ℕ × A) → ℕ → Option A
coded_by [] n = None
coded_by (p ∷ ps) n = if n == p.0 then Some p.1 else coded_by ps n

-- the number of each value is that beside which it stands
abbrev pub Coded : {A : Type 0} → (A → ℕ) → List (ℕ × A) → Type 0
Coded code [] = ⊤
Coded code (p ∷ ps) = (code p.1 ≡ p.0) × Coded code ps

coded_if : {A : Type 0} (code : A → ℕ) (b : Bool) (n m : ℕ) (x a : A) (o : Option A) → (n == m) ≡ b → code x ≡ m → (o ≡ Some a → code a ≡ n) → (if b then Some x else o) ≡ Some a → code a ≡ n
coded_if code true n m x a o t c below e = ap code (sym (some_is x a e)) ∙ c ∙ sym (eqb-true n m t)
coded_if code false n m x a o t c below e = below e

pub coded_law : {A : Type 0} (code : A → ℕ) (table : List (ℕ × A)) → Coded code table → (n : ℕ) (a : A) → coded_by table n ≡ Some a → code a ≡ n
coded_law code [] law n a e = absurd cc
coded_law code (p ∷ ps) law n a e = coded_if code (n == p.0) n p.0 p.1 a (coded_by ps n) refl law.0 (coded_law code ps law.1 n a) e

-- ---- any field that is read is whole and has a value
ruled_ok : {A : Type 0} (here : ℕ) (mid : List ℕ) (o : Option A) (a : A) (rest : List ℕ) → ruled here mid o ≡ Ok (a, rest) → (o ≡ Some a) × (mid ≡ rest)
ruled_ok here mid None a rest e = absurd cc
ruled_ok here mid (Some x) a rest e = moved (λ y r. (Some x ≡ Some y) × (mid ≡ r)) x a mid rest e (refl, refl)

field_ok : {A B : Type 0} (value : B → Option A) (here : ℕ) (o : Option (B × List ℕ)) (a : A) (rest : List ℕ) → field value here o ≡ Ok (a, rest) → (b : B) × (o ≡ Some (b, rest)) × (value b ≡ Some a)
field_ok value here None a rest e = absurd cc
field_ok value here (Some got) a rest e =
    let is = ruled_ok here got.1 (value got.0) a rest e in
    (got.0, ap (λ (r : List ℕ). Some (got.0, r)) is.1, is.0)

-- ---- numbers
join16 : (n : ℕ) → n / 256 * 256 + n % 256 ≡ n
join16 n = omega arith

join32 : (n : ℕ) → ((n / 65536 / 256 * 256 + n / 65536 % 256) * 256 + n % 65536 / 256) * 256 + n % 65536 % 256 ≡ n
join32 n = omega arith

high : (a b : ℕ) → b < 256 → (a * 256 + b) / 256 ≡ a
high a b h = omega arith

low : (a b : ℕ) → b < 256 → (a * 256 + b) % 256 ≡ b
low a b h = omega arith

split16 : (a b : ℕ) → b < 256 → bytes16 (a * 256 + b) ≡ a ∷ b ∷ []
split16 a b h = rw (high a b h, low a b h) refl

split32 : (a b c d : ℕ) → b < 256 → c < 256 → d < 256 → bytes32 (((a * 256 + b) * 256 + c) * 256 + d) ≡ a ∷ b ∷ c ∷ d ∷ []
split32 a b c d p q r =
    let first : (((a * 256 + b) * 256 + c) * 256 + d) / 65536 ≡ a * 256 + b = omega arith in
    let second : (((a * 256 + b) * 256 + c) * 256 + d) % 65536 ≡ c * 256 + d = omega arith in
    rw (first, second, high a b p, low a b p, high c d r, low c d r) refl

abbrev numbered : ℕ → List ℕ → Option (ℕ × List ℕ)
numbered n rest = Some (n, rest)

abbrev TookNumber : Width → List ℕ → ℕ → List ℕ → Type 0
TookNumber w bs n rest = (n < limit w) × (bs ≡ number_bytes w n ++ rest)

took : (w : Width) (bs : List ℕ) (n m : ℕ) (mid rest : List ℕ) → numbered n mid ≡ numbered m rest → TookNumber w bs n mid → TookNumber w bs m rest
took w bs n m mid rest e h = subst (λ (z : ℕ × List ℕ). TookNumber w bs z.0 z.1) (some_is (n, mid) (m, rest) e) h

number_takes : (w : Width) (bs : List ℕ) (n : ℕ) (rest : List ℕ) → AllBytes bs → number_of w bs ≡ Some (n, rest) → TookNumber w bs n rest
number_takes u1 [] n rest h e = absurd cc
number_takes u1 (a ∷ bs) n rest h e = took u1 (a ∷ bs) a n bs rest e (h.0, refl)
number_takes u2 [] n rest h e = absurd cc
number_takes u2 (a ∷ []) n rest h e = absurd cc
number_takes u2 (a ∷ b ∷ bs) n rest h e =
    took u2 (a ∷ b ∷ bs) (a * 256 + b) n bs rest e (omega (arith, h.0, h.1.0), ap (λ (xs : List ℕ). xs ++ bs) (sym (split16 a b h.1.0)))
number_takes u4 [] n rest h e = absurd cc
number_takes u4 (a ∷ []) n rest h e = absurd cc
number_takes u4 (a ∷ b ∷ []) n rest h e = absurd cc
number_takes u4 (a ∷ b ∷ c ∷ []) n rest h e = absurd cc
number_takes u4 (a ∷ b ∷ c ∷ d ∷ bs) n rest h e =
    let small : ((a * 256 + b) * 256 + c) * 256 + d < 4294967296 = omega (arith, h.0, h.1.0, h.1.1.0, h.1.1.1.0) in
    took u4 (a ∷ b ∷ c ∷ d ∷ bs) (((a * 256 + b) * 256 + c) * 256 + d) n bs rest e
    (small, ap (λ (xs : List ℕ). xs ++ bs) (sym (split32 a b c d h.1.0 h.1.1.0 h.1.1.1.0)))

number_again : (w : Width) (n : ℕ) (rest : List ℕ) → number_of w (number_bytes w n ++ rest) ≡ Some (n, rest)
number_again u1 n rest = refl
number_again u2 n rest = ap (λ (m : ℕ). numbered m rest) (join16 n)
number_again u4 n rest = ap (λ (m : ℕ). numbered m rest) (join32 n)

pub number_in_takes : {A : Type 0} (w : Width) (value : ℕ → Option A) (bs : List ℕ) (a : A) (rest : List ℕ) → AllBytes bs → number_in w value bs ≡ Ok (a, rest) → (n : ℕ) × (value n ≡ Some a) × (n < limit w) × (bs ≡ number_bytes w n ++ rest)
number_in_takes w value bs a rest h e =
    let f = field_ok value (length bs) (number_of w bs) a rest e in
    let t = number_takes w bs f.0 rest h f.1 in
    (f.0, f.2, t.0, t.1)

pub number_in_again : {A : Type 0} (w : Width) (value : ℕ → Option A) (n : ℕ) (a : A) (rest : List ℕ) → value n ≡ Some a → number_in w value (number_bytes w n ++ rest) ≡ Ok (a, rest)
number_in_again w value n a rest h = rw (number_again w n rest, h) refl

-- ---- runs of bytes
abbrev ran : List ℕ → List ℕ → Option (List ℕ × List ℕ)
ran t rest = Some (t, rest)

run_by : (n : ℕ) (bs : List ℕ) (short : Bool) (t rest : List ℕ) → ltb (length bs) n ≡ short → (if short then None else ran (take n bs) (drop n bs)) ≡ ran t rest → (length t ≡ n) × (bs ≡ t ++ rest)
run_by n bs true t rest l e = absurd cc
run_by n bs false t rest l e =
    let long : n ≤ length bs = ltb-false _ _ l in
    let size : length (take n bs) ≡ n = omega (arith, length-take n bs) in
    subst (λ (z : List ℕ × List ℕ). (length z.0 ≡ n) × (bs ≡ z.0 ++ z.1)) (some_is (take n bs, drop n bs) (t, rest) e) (size, sym (take-append-drop n bs))

pub run_takes : (n : ℕ) (bs t rest : List ℕ) → run_of n bs ≡ Some (t, rest) → (length t ≡ n) × (bs ≡ t ++ rest)
run_takes n bs t rest e = run_by n bs (ltb (length bs) n) t rest refl e

pub run_again : (t rest : List ℕ) → run_of (length t) (t ++ rest) ≡ Some (t, rest)
run_again t rest =
    let long : ltb (length (t ++ rest)) (length t) ≡ false = le-ltb _ _ (omega (arith, length-append t rest)) in
    rw (long, take_at t rest (length t) refl, drop_at t rest (length t) refl) refl

pub run_in_takes : (n : ℕ) (ok : List ℕ → Bool) (bs t rest : List ℕ) → run_in n ok bs ≡ Ok (t, rest) → (ok t ≡ true) × (length t ≡ n) × (bs ≡ t ++ rest)
run_in_takes n ok bs t rest e =
    let f = field_ok (such ok) (length bs) (run_of n bs) t rest e in
    let r = run_takes n bs f.0 rest f.1 in
    let s = such_some ok f.0 t f.2 in
    subst (λ (x : List ℕ). (ok x ≡ true) × (length x ≡ n) × (bs ≡ x ++ rest)) s.1 (s.0, r.0, r.1)

pub run_in_again : (ok : List ℕ → Bool) (t rest : List ℕ) → ok t ≡ true → run_in (length t) ok (t ++ rest) ≡ Ok (t, rest)
run_in_again ok t rest h = rw (run_again t rest, such_kept ok t h) refl

-- ---- texts
pub text_takes : (w : Width) (long : ℕ → Bool) (ok : List ℕ → Bool) (bs t rest : List ℕ) → AllBytes bs → text_in w long ok bs ≡ Ok (t, rest)
    → ((long (length t) ≡ true) × (length t < limit w) × (ok t ≡ true)) × (bs ≡ (number_bytes w (length t) ++ t) ++ rest)
text_takes w long ok bs t rest h e =
    let a = then_ok (number_in w (such long) bs) (λ n. run_in n ok) t rest e in
    let n = number_in_takes w (such long) bs a.0 a.1 h a.2 in
    let s = such_some long n.0 a.0 n.1 in
    let r = run_in_takes a.0 ok a.1 t rest a.3 in
    let sized = subst (λ (k : ℕ). (long k ≡ true) × (k < limit w) × (bs ≡ number_bytes w k ++ a.1)) (s.1 ∙ sym r.1) (s.0, n.2, n.3) in
    ((sized.0, sized.1, r.0), sized.2 ∙ ap (λ (xs : List ℕ). number_bytes w (length t) ++ xs) r.2 ∙ sym (append_assoc (number_bytes w (length t)) t rest))

pub text_again : (w : Width) (long : ℕ → Bool) (ok : List ℕ → Bool) (t rest : List ℕ) → long (length t) ≡ true → ok t ≡ true → text_in w long ok ((number_bytes w (length t) ++ t) ++ rest) ≡ Ok (t, rest)
text_again w long ok t rest l o =
    ap (text_in w long ok) (append_assoc (number_bytes w (length t)) t rest)
    ∙ rw (number_in_again w (such long) (length t) (length t) (t ++ rest) (such_kept long (length t) l), run_in_again ok t rest o) refl
