-- More bytes behind those at hand change nothing of what is read, nor a fault of a whole field: so no file begins with these.
use Rattle.std.proofs.Common.{◌≡◌, ℕ, zero, suc, ◌+◌, ◌*◌, Bool, true, false, List, [], ◌∷◌, ◌++◌, length, Option, Some, None, Ok, Err, refl, sym, ap, subst, ◌∙◌, append_assoc, length-append}
use Rattle.std.specs.Prelude.{⊤, ◌==◌}
use Rattle.lil_format.specs.declared.stop.Stop.{Stop}
use Rattle.lil_format.specs.declared.stop.Stop.TheVariants.{Left, Memory}
use Rattle.lil_format.specs.Reading.{Outcome, Parser, and_then, ruled, field, such, Width, u1, u2, u4, number_of, run_of, number_in, run_in, many}
use Rattle.lil_format.specs.FieldLaws.{went, run_takes, run_again}
use Rattle.lil_format.specs.Format.{Format, give, number, text, ◌▸◌, ◌>>=◌, list, cases, shape, same, Fits, spelling, nothing, letters_in, tagged, reads}
use Rattle.lil_format.specs.FormatLaws.{read_whole}

-- what is read of bytes, beside what is read where more follow
abbrev pub Stays : {A : Type 0} → List ℕ → Outcome A → Outcome A → Type 0
Stays more (Ok got) o = o ≡ Ok (got.0, got.1 ++ more)
Stays more (Err (Left zero)) o = ⊤
Stays more (Err (Left (suc n))) o = o ≡ Err (Left (suc n + length more))
Stays more (Err Memory) o = ⊤

abbrev pub Steady : {A : Type 0} → Parser A → Type 0
Steady read = (bs more : List ℕ) → Stays more (read bs) (read (bs ++ more))

-- ---- one part and another
fault_stays : {A B : Type 0} (more : List ℕ) (n : ℕ) (o : Outcome A) (next : A → Parser B) → Stays {A = A} more (Err (Left n)) o → Stays {A = B} more (Err (Left n)) (and_then o next)
fault_stays more zero o next h = tt
fault_stays more (suc n) o next h = ap (λ o. and_then o next) h

then_stays : {A B : Type 0} (more : List ℕ) (o p : Outcome A) (next : A → Parser B) → ((a : A) → Steady (next a)) → Stays more o p → Stays more (and_then o next) (and_then p next)
then_stays more (Ok got) p next each h = subst (λ p. Stays more (next got.0 got.1) (and_then p next)) (sym h) (each got.0 got.1 more)
then_stays more (Err (Left n)) p next each h = fault_stays more n p next h
then_stays more (Err Memory) p next each h = tt

and_steady : {A B : Type 0} (read : Parser A) (next : A → Parser B) → Steady read → ((a : A) → Steady (next a)) → Steady (λ bs. and_then (read bs) next)
and_steady read next h each bs more = then_stays more (read bs) (read (bs ++ more)) next each (h bs more)

done_steady : {A : Type 0} (a : A) → Steady (λ bs. Ok (a, bs))
done_steady a bs more = refl

-- ---- fields
abbrev fault : (A : Type 0) → ℕ → Outcome A
fault A n = Err (Left n)

fault_at : (A : Type 0) (bs more : List ℕ) → Stays more (fault A (length bs)) (fault A (length (bs ++ more)))
fault_at A [] more = tt
fault_at A (b ∷ bs) more = ap (fault A) (length-append (b ∷ bs) more)

ruled_stays : {A : Type 0} (bs more mid : List ℕ) (o : Option A) → Stays more (ruled (length bs) mid o) (ruled (length (bs ++ more)) (mid ++ more) o)
ruled_stays {A} bs more mid None = fault_at A bs more
ruled_stays bs more mid (Some a) = refl

-- what is taken whole is taken where more follows
abbrev Grows : {B : Type 0} → (List ℕ → Option (B × List ℕ)) → Type 0
Grows {B} take = (bs more : List ℕ) (x : B × List ℕ) → take bs ≡ Some x → take (bs ++ more) ≡ Some (x.0, x.1 ++ more)

field_by : {A B : Type 0} (value : B → Option A) (bs more : List ℕ) (o p : Option (B × List ℕ)) → ((x : B × List ℕ) → o ≡ Some x → p ≡ Some (x.0, x.1 ++ more)) → Stays more (field value (length bs) o) (field value (length (bs ++ more)) p)
field_by value bs more None p h = tt
field_by value bs more (Some x) p h = subst (λ p. Stays more (ruled (length bs) x.1 (value x.0)) (field value (length (bs ++ more)) p)) (sym (h x refl)) (ruled_stays bs more x.1 (value x.0))

field_steady : {A B : Type 0} (value : B → Option A) (take : List ℕ → Option (B × List ℕ)) → Grows take → Steady (λ bs. field value (length bs) (take bs))
field_steady value take h bs more = field_by value bs more (take bs) (take (bs ++ more)) (h bs more)

abbrev longer : List ℕ → Option (ℕ × List ℕ) → Option (ℕ × List ℕ)
longer more None = None
longer more (Some x) = Some (x.0, x.1 ++ more)

number_longer : (more : List ℕ) (x y : ℕ × List ℕ) → Some x ≡ Some y → longer more (Some x) ≡ longer more (Some y)
number_longer more x y e = ap (longer more) e

number_grows : (w : Width) → Grows (number_of w)
number_grows u1 [] more x e = absurd cc
number_grows u1 (a ∷ bs) more x e = number_longer more (a, bs) x e
number_grows u2 [] more x e = absurd cc
number_grows u2 (a ∷ []) more x e = absurd cc
number_grows u2 (a ∷ b ∷ bs) more x e = number_longer more (a * 256 + b, bs) x e
number_grows u4 [] more x e = absurd cc
number_grows u4 (a ∷ []) more x e = absurd cc
number_grows u4 (a ∷ b ∷ []) more x e = absurd cc
number_grows u4 (a ∷ b ∷ c ∷ []) more x e = absurd cc
number_grows u4 (a ∷ b ∷ c ∷ d ∷ bs) more x e = number_longer more (((a * 256 + b) * 256 + c) * 256 + d, bs) x e

run_grows : (n : ℕ) → Grows (run_of n)
run_grows n bs more x e =
    let t = run_takes n bs x.0 x.1 e in
    let whole : bs ++ more ≡ x.0 ++ (x.1 ++ more) = ap (λ (r : List ℕ). r ++ more) t.1 ∙ append_assoc x.0 x.1 more in
    subst (λ k. run_of k (bs ++ more) ≡ Some (x.0, x.1 ++ more)) t.0 (ap (run_of (length x.0)) whole ∙ run_again x.0 (x.1 ++ more))

number_steady : {A : Type 0} (w : Width) (value : ℕ → Option A) → Steady (number_in w value)
number_steady w value = field_steady value (number_of w) (number_grows w)

run_steady : (n : ℕ) (ok : List ℕ → Bool) → Steady (run_in n ok)
run_steady n ok = field_steady (such ok) (run_of n) (run_grows n)

letters_steady : (front : List ℕ) → Steady (letters_in front)
letters_steady front = and_steady (run_in (length front) (same front)) (λ run rest. Ok (nothing, rest)) (run_steady (length front) (same front)) (λ run. done_steady nothing)

many_steady : {A : Type 0} (each : List A → Parser A) → ((done : List A) → Steady (each done)) → (n : ℕ) (done : List A) → Steady (many each n done)
unfolding many
many_steady each h zero done = done_steady done
many_steady each h (suc n) done = and_steady (each done) (λ a. many each n (done ++ a ∷ [])) (h done) (λ a. many_steady each h n (done ++ a ∷ []))

tagged_steady : {A : Type 0} (b : Bool) (a : A) → Steady (tagged b a)
tagged_steady true a bs more = refl
tagged_steady false a bs more = tt

-- ---- all formats
pub steady : {A : Type 0} (f : Format A) → Steady (reads f)
unfolding reads
steady (give x) = done_steady x
steady (number w value code law) = number_steady w value
steady (text w long ok) = and_steady (number_in w (such long)) (λ n. run_in n ok) (number_steady w (such long)) (λ n. run_steady n ok)
steady (front ▸ f) = and_steady (letters_in front) (λ u. reads f) (letters_steady front) (λ u. steady f)
steady (f >>= g) =
    and_steady (reads f) (λ a mid. and_then (reads (g a) mid) (λ b rest. Ok ((a, b), rest))) (steady f)
    (λ a. and_steady (reads (g a)) (λ b rest. Ok ((a, b), rest)) (steady (g a)) (λ b. done_steady (a, b)))
steady (list w long each) =
    and_steady (number_in w (such long)) (λ n. many (λ done. reads (each n done)) n []) (number_steady w (such long))
    (λ n. many_steady (λ done. reads (each n done)) (λ done. steady (each n done)) n [])
steady (cases w ok tag arm) =
    and_steady (number_in w (such ok)) (λ n mid. and_then (reads (arm n) mid) (λ a. tagged (tag a == n) a)) (number_steady w (such ok))
    (λ n. and_steady (reads (arm n)) (λ a. tagged (tag a == n) a) (steady (arm n)) (λ a. tagged_steady (tag a == n) a))
steady (shape to back law f) = and_steady (reads f) (λ a rest. Ok (to a, rest)) (steady f) (λ a. done_steady (to a))

not_both : {A : Type 0} (got : A × List ℕ) (stop : Stop) → went got ≡ Err stop → ⊥
not_both got stop e = absurd cc

-- where a whole field is a fault, no file begins with these bytes
pub no_file : {A : Type 0} (f : Format A) (bs more : List ℕ) (n : ℕ) (a : A) → reads f bs ≡ Err (Left (suc n)) → Fits f a → spelling f a ≡ bs ++ more → ⊥
no_file f bs more n a e h s =
    let stays : reads f (bs ++ more) ≡ Err (Left (suc n + length more)) = subst (λ o. Stays more o (reads f (bs ++ more))) e (steady f bs more) in
    not_both (a, []) (Left (suc n + length more)) (sym (read_whole f a h) ∙ ap (reads f) s ∙ stays)
