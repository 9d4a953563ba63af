-- What the calls at hand need is at least what their frames take.
use Rattle.lil_resolved.specs.Kinds.{all_words}
use Rattle.lil_table.specs.Rows.{given_words}
use Rattle.std.proofs.Common.{◌≡◌, ℕ, ◌+◌, ◌≤◌, ⊎_elim, List, [], ◌∷◌, Option, sym, ap, ◌∙◌, subst, arith}
use Rattle.std.specs.Prelude.{slice_get}
use Rattle.lil_resolved.specs.{Kinds.Shape, Resolved.{Arguments, Resolved}}
use Rattle.lil_meaning.specs.{Items.{loaded_at, Datum, Called, Pass, PassPlace, PassAll, PassArray, Calling, Callee, callee_number, callee_owner, Turns, Holding, End, Item, Fill, Perform, Activation, Source}, Need.{frame_of, copies_of, cost, unless_body, with_callers, chain}, Steps.{current, owner_of, procedure_of}}
use Rattle.lil_mcode.specs.Table.{Module, State}
use Rattle.lil_match.specs.{Homes.{Owner, Home}, Waits.{Mode, Around, Frame, Setting, with_frames, Pending, Resumed, AStatement, AValue, AreSaved, saved_words, Behind, RowsOf, Rows}, Goes.{Stands, IsKnown, EachKnown, Shared}, Steps.closed}

abbrev pub cost_of : List Frame → ℕ
cost_of [] = 0
cost_of (f ∷ fs) = (f.layout.frame + f.pushed) + cost_of fs

-- the activation of a frame takes what the frame does
pub record Costs (library : List Resolved) (loaded : List ℕ) (acts : List Activation) (f : Frame) : Type 0 where
  pub takes : cost library loaded (slice_get acts f.activation) ≡ f.layout.frame + f.copied + 17
  pub rest : (n : ℕ) → with_callers (slice_get acts f.activation) n ≡ unless_body f.procedure n
  pub owner : owner_of (slice_get acts f.activation) ≡ f.number

abbrev pub EachCosts : List Resolved → List ℕ → List Activation → List Frame → Type 0
EachCosts library loaded acts [] = Unit {0}
EachCosts library loaded acts (f ∷ fs) = Costs library loaded acts f × EachCosts library loaded acts fs

pub known_costs : (library : List Resolved) (loaded : List ℕ) (table : List Module) (acts : List Activation) (h : Home) (f : Frame) → IsKnown library loaded table acts h f → Costs library loaded acts f
known_costs library loaded table acts h f g =
    let owner : g.its.owner ≡ f.number = sym (ap owner_of g.runs) ∙ g.owner in
    let called : g.its.procedure ≡ f.procedure = sym (ap procedure_of g.runs) ∙ g.called in
    record {
      takes = ap (cost library loaded) g.runs
          ∙ ap (λ (n : ℕ). frame_of (loaded_at library loaded n) g.its.procedure + copies_of (loaded_at library loaded n) g.its.procedure g.its.slots + 17) owner
          ∙ ap (λ (p : ℕ). frame_of (loaded_at library loaded f.number) p + copies_of (loaded_at library loaded f.number) p g.its.slots + 17) called
          ∙ (let e : frame_of (loaded_at library loaded f.number) f.procedure + copies_of (loaded_at library loaded f.number) f.procedure g.its.slots + 17 ≡ f.layout.frame + f.copied + 17 = omega (arith, g.size, g.copies) in e);
      rest = λ n. ap (λ (o : Option Activation). with_callers o n) g.runs ∙ ap (λ (p : ℕ). unless_body p n) called;
      owner = g.owner;
    }

pub each_costs : (library : List Resolved) (loaded : List ℕ) (table : List Module) (acts : List Activation) (h : Home) (fs : List Frame) → EachKnown library loaded table acts h fs → EachCosts library loaded acts fs
each_costs library loaded table acts h [] e = tt
each_costs library loaded table acts h (f ∷ fs) e = (known_costs library loaded table acts h f e.0, each_costs library loaded table acts h fs e.1)

-- during a call's arguments, what is pushed and what is to be takes no more than the call
pub pending_cost : (ctx : Setting) (k : List Item) (q : Callee) (done : List Datum) (next : List Shape) (left : Arguments) (p c : ℕ) (a : Around) → Pending ctx q done next left (RowsOf k) p c a
    → EachCosts ctx.library ctx.loaded ctx.activations (ctx.stack.frame ∷ ctx.stack.callers)
    → ((y : Setting) (t : Mode) (p : ℕ) (stack : List ℕ) (c : ℕ) (a : Around) → Rows y k t p stack c a → EachCosts y.library y.loaded y.activations (y.stack.frame ∷ y.stack.callers) → cost_of (y.stack.frame ∷ y.stack.callers) ≤ chain y.library y.loaded y.activations k)
    → cost_of (ctx.stack.frame ∷ ctx.stack.callers) + (all_words next + given_words ctx.stack.frame.layout.scope left) ≤ (frame_of (loaded_at ctx.library ctx.loaded (callee_owner (owner_of (slice_get ctx.activations (current k))) q)) (callee_number q) + 17) + chain ctx.library ctx.loaded ctx.activations k
pending_cost ctx k q done next left p c a w e rest =
    let inner = subst (λ (y : Setting). EachCosts y.library y.loaded y.activations (y.stack.frame ∷ y.stack.callers)) w.is e in
    let below = rest w.before _ w.after _ w.later w.outer w.then (record { takes = inner.0.takes; rest = inner.0.rest; owner = inner.0.owner }, inner.1) in
    let chain_is : chain ctx.library ctx.loaded ctx.activations k ≡ chain w.before.library w.before.loaded w.before.activations k = ap (λ (y : Setting). chain y.library y.loaded y.activations k) w.is in
    let cost_is : cost_of (ctx.stack.frame ∷ ctx.stack.callers) ≡ (saved_words w.resumed + (4 + all_words w.shapes)) + cost_of (w.before.stack.frame ∷ w.before.stack.callers) =
    ap (λ (y : Setting). cost_of (y.stack.frame ∷ y.stack.callers)) w.is
    ∙ (let e : (w.before.stack.frame.layout.frame + ((saved_words w.resumed + (4 + all_words w.shapes)) + w.before.stack.frame.pushed)) + cost_of w.before.stack.callers ≡ (saved_words w.resumed + (4 + all_words w.shapes)) + ((w.before.stack.frame.layout.frame + w.before.stack.frame.pushed) + cost_of w.before.stack.callers) = omega arith in e) in
    let same : current k ≡ ctx.stack.frame.activation = closed w.before k _ w.after _ w.later w.outer w.then ∙ sym (ap (λ (y : Setting). y.stack.frame.activation) w.is) in
    let number : owner_of (slice_get ctx.activations (current k)) ≡ ctx.stack.frame.number = ap (λ (i : ℕ). owner_of (slice_get ctx.activations i)) same ∙ e.0.owner in
    let frame : frame_of (loaded_at ctx.library ctx.loaded (callee_owner (owner_of (slice_get ctx.activations (current k))) q)) (callee_number q) ≡ frame_of (loaded_at ctx.library ctx.loaded ctx.stack.frame.number) (callee_number q) =
    ap (λ (i : ℕ). frame_of (loaded_at ctx.library ctx.loaded (callee_owner i q)) (callee_number q)) number ∙ ap (λ (i : ℕ). frame_of (loaded_at ctx.library ctx.loaded i) (callee_number q)) w.here in
    omega (arith, below, chain_is, cost_is, frame, w.room)

-- a whole expression stack and its length
pub saved_low : (shadow : ℕ → ℕ) (r : Resumed) (at : ℕ) → AreSaved shadow r at → saved_words r ≤ 17
saved_low shadow AStatement at h = omega arith
saved_low shadow (AValue k saved) at h = omega (arith, h.0)

-- the calls of items that have rows take what the frames do
pub items_cost : (ctx : Setting) (k : List Item) (t : Mode) (p : ℕ) (stack : List ℕ) (c : ℕ) (a : Around) → Rows ctx k t p stack c a
    → EachCosts ctx.library ctx.loaded ctx.activations (ctx.stack.frame ∷ ctx.stack.callers) → cost_of (ctx.stack.frame ∷ ctx.stack.callers) ≤ chain ctx.library ctx.loaded ctx.activations k
items_cost ctx [] t p stack c a r e = absurd r
items_cost ctx (Perform (Turns x kind z step left body) ∷ k) t p stack c a r e =
    let rest : cost_of (ctx.stack.frame ∷ ctx.stack.callers) ≤ chain ctx.library ctx.loaded ctx.activations k = ⊎_elim (λ b. items_cost ctx k _ _ _ _ _ b.then e) (λ n. items_cost ctx k _ _ _ _ _ n.then e) r.there in
    omega (arith, rest)
items_cost ctx (Perform (Holding place) ∷ k) t p stack c a r e =
    let w = r.there in
    let inner = subst (λ (y : Setting). EachCosts y.library y.loaded y.activations (y.stack.frame ∷ y.stack.callers)) w.is e in
    let rest : cost_of (ctx.stack.frame ∷ ctx.stack.callers) ≤ chain ctx.library ctx.loaded ctx.activations k =
    subst (λ (y : Setting). cost_of (y.stack.frame ∷ y.stack.callers) ≤ chain y.library y.loaded y.activations k) (sym w.is)
    (items_cost w.before k _ _ _ _ _ w.then (record { takes = inner.0.takes; rest = inner.0.rest; owner = inner.0.owner }, inner.1)) in
    omega (arith, rest)
items_cost ctx (Perform (End n) ∷ k) t p stack c a r e =
    let same : chain ctx.library ctx.loaded ctx.activations (Perform (End n) ∷ k) ≡ (ctx.stack.frame.layout.frame + ctx.stack.frame.copied + 17) + with_callers (slice_get ctx.activations ctx.stack.frame.activation) (chain ctx.library ctx.loaded ctx.activations k) =
    ap (λ (i : ℕ). cost ctx.library ctx.loaded (slice_get ctx.activations i) + with_callers (slice_get ctx.activations i) (chain ctx.library ctx.loaded ctx.activations k)) r.there.activation
    ∙ ap (λ (n : ℕ). n + with_callers (slice_get ctx.activations ctx.stack.frame.activation) (chain ctx.library ctx.loaded ctx.activations k)) e.0.takes in
    omega (arith, same, r.there.idle, by ctx.stack.callers ctx.stack.bodies e.1 r.there.behind (λ g gs bs t p stack a back rest. items_cost (with_frames ctx g gs bs) k t p stack r.later a back rest))
  where
    by : (gs bs : List Frame) → EachCosts ctx.library ctx.loaded ctx.activations gs → Behind ctx k (RowsOf k) r.later gs bs
        → ((g : Frame) (gs bs : List Frame) (t : Mode) (p : ℕ) (stack : List ℕ) (a : Around) → Rows (with_frames ctx g gs bs) k t p stack r.later a → EachCosts ctx.library ctx.loaded ctx.activations (g ∷ gs) → cost_of (g ∷ gs) ≤ chain ctx.library ctx.loaded ctx.activations k)
        → cost_of gs ≤ 17 + with_callers (slice_get ctx.activations ctx.stack.frame.activation) (chain ctx.library ctx.loaded ctx.activations k)
    by (g ∷ gs) bs each back under =
        omega (arith, e.0.rest (chain ctx.library ctx.loaded ctx.activations k) ∙ ap (λ (p : ℕ). unless_body p (chain ctx.library ctx.loaded ctx.activations k)) back.called, back.pushed_is, saved_low ctx.home.shadow back.resumed _ back.saved, under (record g { pushed = back.under_saved }) gs bs _ _ _ _ back.then (record { takes = each.0.takes; rest = each.0.rest; owner = each.0.owner }, each.1))
    by [] bs each back under = omega arith
items_cost ctx (Fill (Pass (Called q) kind done left) ∷ k) t p stack c a r e =
    let all = pending_cost ctx k q done _ left _ _ a r.there.pending e (λ y t p stack c a. items_cost y k t p stack c a) in
    omega (arith, all)
items_cost ctx (Fill (PassPlace (Called q) done left) ∷ k) t p stack c a r e =
    let all = pending_cost ctx k q done _ left _ _ a r.there.pending e (λ y t p stack c a. items_cost y k t p stack c a) in
    omega (arith, all)
items_cost ctx (Fill (PassAll (Called q) done left) ∷ k) t p stack c a r e =
    let all = pending_cost ctx k q done _ left _ _ a r.there.pending e (λ y t p stack c a. items_cost y k t p stack c a) in
    omega (arith, all)
items_cost ctx (Fill (PassArray (Called q) high done left) ∷ k) t p stack c a r e =
    let all = pending_cost ctx k q done _ left _ _ a r.there.pending e (λ y t p stack c a. items_cost y k t p stack c a) in
    omega (arith, all)
items_cost ctx (Fill (Calling given) ∷ k) t p stack c a r e =
    let w = r.there in
    let inner = subst (λ (y : Setting). EachCosts y.library y.loaded y.activations (y.stack.frame ∷ y.stack.callers)) w.is e in
    let below = items_cost w.before k _ w.after _ _ w.outer w.then (record { takes = inner.0.takes; rest = inner.0.rest; owner = inner.0.owner }, inner.1) in
    let chain_is : chain ctx.library ctx.loaded ctx.activations k ≡ chain w.before.library w.before.loaded w.before.activations k = ap (λ (y : Setting). chain y.library y.loaded y.activations k) w.is in
    let cost_is : cost_of (ctx.stack.frame ∷ ctx.stack.callers) ≡ saved_words w.resumed + cost_of (w.before.stack.frame ∷ w.before.stack.callers) =
    ap (λ (y : Setting). cost_of (y.stack.frame ∷ y.stack.callers)) w.is
    ∙ (let e : (w.before.stack.frame.layout.frame + (saved_words w.resumed + w.before.stack.frame.pushed)) + cost_of w.before.stack.callers ≡ saved_words w.resumed + ((w.before.stack.frame.layout.frame + w.before.stack.frame.pushed) + cost_of w.before.stack.callers) = omega arith in e) in
    omega (arith, below, chain_is, cost_is, saved_low ctx.home.shadow w.resumed _ w.saved)
items_cost ctx (i ∷ k) t p stack c a r e =
    let rest = items_cost ctx k _ _ _ _ _ r.there.then e in
    omega (arith, rest)

-- frames take no more than they cost
pub top_low : (owner : ℕ → Owner) (base top : ℕ) (f : Frame) (gs : List Frame) → Stands owner base top f gs → top ≤ base + cost_of (f ∷ gs)
top_low owner base top f [] s = omega (arith, s.0.top_is, s.1)
top_low owner base top f (g ∷ gs) s = omega (arith, s.0.top_is, top_low owner base f.at g gs s.1)

-- what the frames of a state cost
pub shared_costs : (ctx : Setting) (s : Source) (m : State) → Shared ctx s m → EachCosts ctx.library ctx.loaded ctx.activations (ctx.stack.frame ∷ ctx.stack.callers)
shared_costs ctx s m shared = (
  known_costs ctx.library ctx.loaded ctx.table ctx.activations ctx.home ctx.stack.frame shared.standing.known,
  each_costs ctx.library ctx.loaded ctx.table ctx.activations ctx.home ctx.stack.callers shared.standing.callers,
)

-- the same of a state
pub shared_cost : (ctx : Setting) (s : Source) (m : State) → Shared ctx s m → (k : List Item) (t : Mode) (p : ℕ) (stack : List ℕ) (c : ℕ) (a : Around) → Rows ctx k t p stack c a
    → cost_of (ctx.stack.frame ∷ ctx.stack.callers) ≤ chain ctx.library s.loaded s.activations k
shared_cost ctx s m shared k t p stack c a r =
    let same : chain ctx.library s.loaded s.activations k ≡ chain ctx.library ctx.loaded ctx.activations k =
    ap (λ (l : List ℕ). chain ctx.library l s.activations k) shared.loaded_are ∙ ap (λ (acts : List Activation). chain ctx.library ctx.loaded acts k) shared.activations_are in
    omega (arith, same, items_cost ctx k t p stack c a r (shared_costs ctx s m shared))
