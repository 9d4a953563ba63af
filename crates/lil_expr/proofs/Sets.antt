-- The code of sets, member by member, and the words of sets.
use Rattle.std.proofs.Common.{◌≡◌, ℕ, ◌+◌, ◌*◌, ◌/◌, ◌%◌, ◌<◌, ℤ, List, [], ◌∷◌, ◌++◌, map, length, ◌==◌, refl, sym, ap, ◌∙◌, subst, arith, append-nil, append_assoc}
use Rattle.std.specs.List.{flat_map}
use Rattle.std.specs.Int.{bit_at}
use Rattle.std.proofs.lemmas.Nat.Bits.{bit_at_cat_low}
use Rattle.lil_base.specs.{Sets.{has, set_word}, Words.word_of}
use Rattle.lil_resolved.specs.{declared.resolved.{RMember.{RMember, out-RMember}, RArgument.{RArgument, TheOpen.RMember-F, TheFolds.map-RMember}, RExpr.RExpr, RRoot.RRoot, RSelector.RSelector, ROperation.ROperation, RPlace.RPlace}, Kinds.{Kind, OfSet, SetOf, scalar_of, scalar_word}, Members.no_members, MemberLaws.{word_same, word_of_set}, Resolved.{Argument, Designator, Expression, With, WithSpan}, Sizes.expression_strings, Views.{empty_set, with_members, member_of, member_is, member_layer, argument_of, expression_of, root_of, selector_of, operation_of, place_of}}
use Rattle.lil_resolved.specs.declared.resolved.RArgument.TheOpen as o
use Rattle.lil_asm.specs.declared.instr.Instr.TheVariants.{Liw, Dup, Spn}
use Rattle.lil_labels.specs.{Drafts.{Draft, Final, Adds, Emits, Doing, DoingAll, Each}, Emitting.{emits_then, emits_as, adds_as}}
use Rattle.lil_expr.specs.{Strings.emits_end, Generating.{Value, Tested, Joining, member_part}}
use Rattle.lil_expr.proofs.Forms.{constant_emitted}

-- ---- words
-- the set of what a number has in its last 16 bits
low_bits : (n : ℕ) → set_word (has n) ≡ n % 65536
low_bits n =
    let parts : n ≡ (n / 65536) * 65536 + n % 65536 = omega arith in
    let same : (i : ℕ) → i < 16 → has n i ≡ has (n % 65536) i = λ i less. ap (λ (b : ℕ). b == 1) (ap (λ (n : ℕ). bit_at n i) parts ∙ bit_at_cat_low (n / 65536) 16 (n % 65536) i less) in
    word_same (has n) (has (n % 65536)) same ∙ word_of_set (n % 65536) (omega arith)

pub low_word : (z : ℤ) → scalar_word (scalar_of OfSet z) ≡ word_of z % 65536
low_word z = low_bits (word_of z)

-- nothing is in the set of the word 0
pub no_word : 0 ≡ scalar_word (SetOf no_members)
unfolding set_word
no_word = refl

-- ---- the words of strings
layer_strings : (y : RMember-F Argument Expression (Kind → Expression → Expression) Designator (Designator → Designator) (Expression → Expression) Designator) (k : Kind) (s : Expression)
    → expression_strings s ++ expression_strings (member_layer y OfSet empty_set) ≡ expression_strings (member_layer y k s)
layer_strings (o.Single a) k s = refl
layer_strings (o.Span a b) k s = sym (append_assoc (expression_strings s) (expression_strings a) (expression_strings b))

member_strings : (m : RMember) (k : Kind) (s : Expression) → expression_strings s ++ member_part m ≡ expression_strings (member_of m k s)
member_strings m k s =
    let y = map-RMember RArgument RExpr RMember RRoot RSelector ROperation RPlace Argument Expression (Kind → Expression → Expression) Designator (Designator → Designator) (Expression → Expression) Designator argument_of expression_of member_of root_of selector_of operation_of place_of (out-RMember m) in
    ap (λ (e : Expression). expression_strings s ++ expression_strings e) (member_is m OfSet empty_set) ∙ layer_strings y k s ∙ sym (ap expression_strings (member_is m k s))

set_strings : (k : Kind) (s : Expression) (ms : List RMember) → expression_strings s ++ flat_map member_part ms ≡ expression_strings (with_members k s (map member_of ms))
set_strings k s [] = append-nil (expression_strings s)
set_strings k s (m ∷ ms) =
    let rest = flat_map member_part ms in
    sym (append_assoc (expression_strings s) (member_part m) rest) ∙ ap (λ (ws : List ℕ). ws ++ rest) (member_strings m k s) ∙ set_strings k (member_of m k s) ms

-- ---- one behind another
pub single_joins : (m : RMember) (k : Kind) (e : Expression) (a b c : Draft) → ((j : Kind) (s : Expression) → member_of m j s ≡ With s j e) → Adds (expression_strings e) a b (Tested k e) → Emits b c (DoingAll (Dup ∷ Spn ∷ [])) → Adds (member_part m) a c (Joining k m)
single_joins m k e a b c form value by =
    adds_as a c _ (sym (ap expression_strings (form OfSet empty_set)))
    (emits_as a c _ (Joining k m)
    (λ x t start s set.
    subst (λ (e : Expression). Value e x start (length c.bytes)) (sym (form k s))
    (λ sound. search (sound, set sound.1, t.0 sound.4, t.1)))
    (emits_end a b c _ _ value by))

pub span_joins : (m : RMember) (k : Kind) (e f : Expression) (a b c d : Draft) → ((j : Kind) (s : Expression) → member_of m j s ≡ WithSpan s j e f) → Adds (expression_strings e) a b (Tested k e) → Adds (expression_strings f) b c (Tested k f) → Emits c d (Doing (λ w. Spn))
    → Adds (member_part m) a d (Joining k m)
span_joins m k e f a b c d form low high by =
    adds_as a d _ (sym (ap expression_strings (form OfSet empty_set)))
    (emits_as a d _ (Joining k m)
    (λ x t start s set.
    subst (λ (e : Expression). Value e x start (length d.bytes)) (sym (form k s))
    (λ sound. search (sound, set sound.1, t.0 sound.5, t.1.0 sound.6, t.1.1)))
    (emits_then a b d _ _ low (emits_end b c d _ _ high by)))

members_join : (k : Kind) (ms : List RMember) (x : Final) (p q start : ℕ) (s : Expression) → Each (Joining k) ms x p q → Value s x start p → Value (with_members k s (map member_of ms)) x start q
members_join k [] x p q start s h set = subst (Value s x start) h set
members_join k (m ∷ ms) x p q start s h set = members_join k ms x h.0 q start (member_of m k s) h.2 (h.1 start s set)

-- the empty set, and its members
pub set_emitted : (k : Kind) (ms : List RMember) (a b c : Draft) → Emits a b (Doing (λ w. Liw 0)) → Adds (flat_map member_part ms) b c (Each (Joining k) ms)
    → Adds (expression_strings (with_members k empty_set (map member_of ms))) a c (Value (with_members k empty_set (map member_of ms)))
set_emitted k ms a b c none rest =
    adds_as a c _ (set_strings k empty_set ms)
    (emits_as a c _ (Value (with_members k empty_set (map member_of ms))) (λ x t. members_join k ms x _ _ (length a.bytes) empty_set t.1 t.0)
    (emits_then a b c _ _ (constant_emitted OfSet (SetOf no_members) 0 a b (λ fits. no_word) none) rest))
