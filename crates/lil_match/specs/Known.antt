-- What is known of frames stays where homes agree on what it speaks of, and where there are more activations.
use Rattle.std.proofs.Common.{◌≡◌, ℕ, ◌+◌, Bool, true, false, ◌||◌, List, [], ◌∷◌, refl, sym, ap, ◌∙◌, ◌<◌, length, arith, eq-eqb}
use Rattle.std.specs.List.{list_any}
use Rattle.std.proofs.lemmas.{Bool.eqb-true, Option.slice_get_within}
use Rattle.lil_resolved.specs.{Kinds.is_there, Resolved.Resolved}
use Rattle.lil_meaning.specs.{Items.{Root, Global, Local, Object, Activation}, Steps.{owner_of, procedure_of}}
use Rattle.lil_mcode.specs.Table.{Module}
use Rattle.lil_match.specs.{Homes.{Fixed, Listed, Home, lives}, Waits.{Frame, is_of, sees}, Goes.{IsKnown, EachKnown, EachComes, HasLocals, EachLocal, Grows}}

module _ (library : List Resolved) (loaded : List ℕ) (table : List Module) (activations more : List Activation) (grows : Grows more activations) (h x : Home)
    (base : (m y : ℕ) → x.base (Global m y) ≡ h.base (Global m y)) (shape : (m y : ℕ) → x.shape (Global m y) ≡ h.shape (Global m y)) (listed : x.listed ≡ h.listed)
    (fixed : (a : ℕ) → h.owner a ≡ Fixed → (x.owner a ≡ Fixed) × (x.shadow a ≡ h.shadow a)) where
  pub known_kept : (f : Frame) → IsKnown library loaded table activations h f → IsKnown library loaded table more x f
  known_kept f g =
      let there = grows f.activation g.its g.runs in
      record {
        known = g.known;
        named = g.named;
        its = g.its;
        runs = there;
        owner = ap owner_of there ∙ sym (ap owner_of g.runs) ∙ g.owner;
        called = ap procedure_of there ∙ sym (ap procedure_of g.runs) ∙ g.called;
        entered = g.entered;
        piece = g.piece;
        size = g.size;
        copies = g.copies;
        returns = g.returns;
        procedures = g.procedures;
        codes = g.codes;
        variables = λ n o k offset kind. let v = g.variables n o k offset kind in (shape f.number n ∙ v.0, base f.number n ∙ v.1);
        strings = λ i less. let s = g.strings i less in let y = fixed (f.own.base + (f.layout.words + i)) s.0 in (y.0, y.1 ∙ s.1);
        inside = g.inside;
        targets = g.targets ∙ sym (ap (λ (ls : Listed). ls.targets) listed);
        own_targets = g.own_targets ∙ sym (ap (λ (ls : Listed). ls.targets) listed);
        signatures = g.signatures ∙ sym (ap (λ (ls : Listed). ls.signatures) listed);
        outlines = g.outlines ∙ sym (ap (λ (ls : Listed). ls.procedures) listed);
        here = g.here ∙ sym (ap (λ (ls : Listed). ls.number) listed);
        number = g.number;
      }

  pub each_known : (fs : List Frame) → EachKnown library loaded table activations h fs → EachKnown library loaded table more x fs
  each_known [] e = tt
  each_known (f ∷ fs) e = (known_kept f e.0, each_known fs e.1)

  pub each_comes : (low : ℕ) (fs : List Frame) → EachComes library loaded table activations h low fs → EachComes library loaded table more x low fs
  each_comes low [] e = tt
  each_comes low (f ∷ fs) e = (record { known = known_kept f e.0.known; later = e.0.later; at = e.0.at; mark = e.0.mark; chain = e.0.chain; display = e.0.display }, each_comes low fs e.1)

-- ---- the roots that frames can name
pub or_later : (a b : Bool) → b ≡ true → (a || b) ≡ true
or_later true b e = refl
or_later false b e = e

pub sees_more : (f : Frame) (fs : List Frame) (r : Root) → sees fs r ≡ true → sees (f ∷ fs) r ≡ true
sees_more f fs (Local a x) e = or_later (is_of a f) (list_any (is_of a) fs) e
sees_more f fs (Global m x) e = refl
sees_more f fs (Object o) e = refl

or_first : (a b : Bool) → a ≡ true → (a || b) ≡ true
or_first true b e = refl
or_first false b e = cc

pub own_seen : (f : Frame) (fs : List Frame) (y : ℕ) → sees (f ∷ fs) (Local f.activation y) ≡ true
own_seen f fs y = or_first (is_of f.activation f) (list_any (is_of f.activation) fs) (eq-eqb f.activation f.activation refl)

-- variables live on where they are
module _ (activations more : List Activation) (grows : Grows more activations) (h x : Home) where
  locals_kept : (f : Frame) → ((y : ℕ) → lives h (Local f.activation y) ≡ true → x.base (Local f.activation y) ≡ h.base (Local f.activation y))
      → ((y : ℕ) → lives h (Local f.activation y) ≡ true → x.shape (Local f.activation y) ≡ h.shape (Local f.activation y)) → HasLocals activations h f → HasLocals more x f
  locals_kept f base shape l = record {
    its = l.its;
    runs = grows f.activation l.its l.runs;
    variables = λ y o t at typed there.
        let v = l.variables y o t at typed there in
        let alive : is_there (h.shape (Local f.activation y)) ≡ true = ap is_there v.1 ∙ there in
        (v.0, shape y alive ∙ v.1, base y alive ∙ v.2);
  }

  pub each_local : (fs : List Frame) → ((r : Root) → sees fs r ≡ true → lives h r ≡ true → x.base r ≡ h.base r) → ((r : Root) → sees fs r ≡ true → lives h r ≡ true → x.shape r ≡ h.shape r) → EachLocal activations h fs → EachLocal more x fs
  each_local [] base shape e = tt
  each_local (f ∷ fs) base shape e = (
    locals_kept f (λ y. base (Local f.activation y) (own_seen f fs y)) (λ y. shape (Local f.activation y) (own_seen f fs y)) e.0,
    e.1,
    each_local fs (λ r s. base r (sees_more f fs r s)) (λ r s. shape r (sees_more f fs r s)) e.2,
  )

-- an activation of a frame is there
pub seen_within : (activations : List Activation) (h : Home) (fs : List Frame) → EachLocal activations h fs → (a : ℕ) → list_any (is_of a) fs ≡ true → a < length activations
seen_within activations h [] e a seen = cc
seen_within activations h (f ∷ fs) e a seen = by (is_of a f) refl (seen_within activations h fs e.2 a) seen
  where
    by : (b : Bool) → is_of a f ≡ b → (list_any (is_of a) fs ≡ true → a < length activations) → (b || list_any (is_of a) fs) ≡ true → a < length activations
    by true mine rest s = omega (arith, eqb-true f.activation a mine, slice_get_within activations f.activation e.0.its e.0.runs)
    by false other rest s = rest s
