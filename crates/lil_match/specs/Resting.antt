-- The stacks that don't run: each lies apart from the one that runs, and a step of that one leaves them as they are.
use Rattle.std.proofs.Common.{◌≡◌, ℕ, ◌+◌, ◌<◌, ◌≤◌, ◌⊎◌, inl, inr, Bool, true, false, not, List, [], ◌∷◌, length, refl, sym, ap, ◌∙◌, ⊎_elim, arith}
use Rattle.std.specs.List.{list_any}
use Rattle.lil_meaning.specs.Items.{Root, Global, Local, Object, Activation, Parked}
use Rattle.lil_mcode.specs.Table.{Kept}
use Rattle.lil_table.specs.Rows.{loop_place}
use Rattle.lil_match.specs.{Homes.{Home, lives}, Waits.{Quiet, Around, Stack, frames_of, is_of, sees, Setting, Rows}, Goes.{OwnWords, Grows, Standing, beyond, Touches, Succeeds}, Known.{known_kept, each_known, each_comes, each_local, seen_within}, Kept.{first_words, stack_above, EachAbove, each_handed, stands_kept, chained_kept, loops_fit, rows_renewed}}

-- the same with another stack
abbrev pub on_stack : Setting → Stack → Setting
on_stack ctx y = record ctx { stack = y }

-- a coroutine of the source is one of the machine's: its frames stand apart from the stack that runs, and the code where it goes on does
-- its items
pub record Rests (ctx : Setting) (p : Parked) (r : Kept) : Type 0 where
  pub stack : Stack
  pub standing : Standing (on_stack ctx stack) r.stack
  pub later : ℕ
  pub around : Around
  pub rows : Rows (on_stack ctx stack) p.items Quiet r.place [] later around
  pub apart : (stack.limit ≤ ctx.stack.base) ⊎ (ctx.stack.limit ≤ stack.base)
  pub others : (a : ℕ) → list_any (is_of a) (frames_of stack) ≡ true → list_any (is_of a) (frames_of ctx.stack) ≡ false

abbrev pub EachRests : Setting → List Parked → List Kept → Type 0
EachRests ctx [] [] = Unit {0}
EachRests ctx (p ∷ ps) (r ∷ rs) = Rests ctx p r × EachRests ctx ps rs
EachRests ctx ps rs = ⊥

-- THE law of what rests: a step of the running stack keeps the others
pub rests_kept : (ctx : Setting) (more : List Activation) (x : Home) (y : Stack) → Grows more ctx.activations → Touches ctx.home x (frames_of ctx.stack) ctx.stack.base ctx.stack.limit → Succeeds y ctx.stack ctx.activations → (p : Parked) (r : Kept) → Rests ctx p r
    → Rests (record ctx { activations = more; home = x; stack = y }) p r
rests_kept ctx more x y grows touch same p r rests = record {
  stack = d;
  standing = record {
    frame_is = g.frame_is;
    base_is = g.base_is;
    limit_is = g.limit_is;
    bodies_are = g.bodies_are;
    known = known_kept ctx.library ctx.loaded ctx.table ctx.activations more grows ctx.home x (λ m z. touch.base (Global m z) refl refl) (λ m z. touch.shape (Global m z) refl refl) touch.listed touch.fixed d.frame g.known;
    callers = each_known ctx.library ctx.loaded ctx.table ctx.activations more grows ctx.home x (λ m z. touch.base (Global m z) refl refl) (λ m z. touch.shape (Global m z) refl refl) touch.listed touch.fixed d.callers g.callers;
    comes = each_comes ctx.library ctx.loaded ctx.table ctx.activations more grows ctx.home x (λ m z. touch.base (Global m z) refl refl) (λ m z. touch.shape (Global m z) refl refl) touch.listed touch.fixed d.base d.bodies g.comes;
    stands = stands_kept ctx.home.owner x.owner d.base r.stack.top d.frame d.callers (λ a from below. touch.owner a (far a from (omega (arith, below, g.low)))) g.stands;
    links = chained_kept ctx.home.shadow x.shadow ctx.activations more grows ctx.home.owner d.base r.stack.top d.frame d.callers g.stands (λ a from below. touch.shadow a (far a from (omega (arith, below, words.top_is, words.mark, g.low)))) g.links;
    room = λ a from below. touch.owner a (far a (omega (arith, from, high.0, words.top_is)) below) ∙ g.room a from below;
    locals = each_local ctx.activations more grows ctx.home x (frames_of d) base shape g.locals;
    handed = each_handed ctx.activations more grows ctx.home x d.bodies d.base r.stack.top d.frame d.callers g.stands
        (λ a from below. let away = far a from (omega (arith, below, words.top_is, words.mark, g.low)) in (touch.owner a away, touch.shadow a away)) base shape g.handed;
    based = g.based;
    low = g.low;
    high = g.high;
  };
  later = rests.later;
  around = rests.around;
  rows = rows_renewed p.items (on_stack ctx d) more x d.limit (d.base + 4) high.1 Quiet r.place [] rests.later rests.around
      (record {
        pushed = λ i less. touch.shadow (d.frame.at + (d.frame.layout.frame + i)) (far (d.frame.at + (d.frame.layout.frame + i)) (omega (arith, high.0)) (omega (arith, less, words.top_is, g.low)));
        shadow = λ a from below. touch.shadow a (far a (omega (arith, from)) (omega (arith, below, loops, words.top_is, g.low)));
        base = base;
        shape = shape;
        listed = touch.listed;
        workspaces = touch.workspaces;
      })
      rests.rows;
  apart = ⊎_elim (λ (l : d.limit ≤ ctx.stack.base). inl (omega (arith, l, same.base))) (λ (u : ctx.stack.limit ≤ d.base). inr (omega (arith, u, same.limit))) rests.apart;
  others = λ a seen. not_seen a seen (list_any (is_of a) (frames_of y)) refl;
}
  where
    d : Stack
    d = rests.stack

    g : Standing (on_stack ctx rests.stack) r.stack
    g = rests.standing

    -- none of its variables is one of the running stack's
    beyond_it : (r : Root) → sees (frames_of rests.stack) r ≡ true → beyond (frames_of ctx.stack) r ≡ true
    beyond_it (Global m z) seen = refl
    beyond_it (Local a z) seen = ap not (rests.others a seen)
    beyond_it (Object o) seen = refl

    base : (q : Root) → sees (frames_of rests.stack) q ≡ true → lives ctx.home q ≡ true → x.base q ≡ ctx.home.base q
    base q seen = touch.base q (beyond_it q seen)

    shape : (q : Root) → sees (frames_of rests.stack) q ≡ true → lives ctx.home q ≡ true → x.shape q ≡ ctx.home.shape q
    shape q seen = touch.shape q (beyond_it q seen)

    not_seen : (a : ℕ) → list_any (is_of a) (frames_of rests.stack) ≡ true → (b : Bool) → list_any (is_of a) (frames_of y) ≡ b → b ≡ false
    not_seen a seen false e = refl
    not_seen a seen true e = absurd (⊎_elim (λ old. (let clash : true ≡ false = sym old ∙ rests.others a seen in cc))
        (λ (new : length ctx.activations ≤ a). omega (arith, new, seen_within ctx.activations ctx.home (frames_of rests.stack) rests.standing.locals a seen)) (same.frames a e))

    high : (rests.stack.base ≤ rests.stack.frame.at) × EachAbove (rests.stack.base + 4) (frames_of rests.stack)
    high = stack_above (on_stack ctx rests.stack) r.stack rests.standing

    words : OwnWords ctx.home.owner rests.stack.frame r.stack.top
    words = first_words ctx.home.owner rests.stack.base r.stack.top rests.stack.frame rests.stack.callers rests.standing.stands

    loops : loop_place rests.around.taken ≤ rests.stack.frame.layout.frame
    loops = loops_fit p.items (on_stack ctx rests.stack) Quiet r.place [] rests.later rests.around words.mark rests.rows

    far : (a : ℕ) → rests.stack.base ≤ a → a < rests.stack.limit → (a < ctx.stack.base) ⊎ (ctx.stack.limit ≤ a)
    far a from below = ⊎_elim (λ (l : rests.stack.limit ≤ ctx.stack.base). inl (omega (arith, below, l))) (λ (u : ctx.stack.limit ≤ rests.stack.base). inr (omega (arith, from, u))) rests.apart

pub each_rests : (ctx : Setting) (more : List Activation) (x : Home) (y : Stack) → Grows more ctx.activations → Touches ctx.home x (frames_of ctx.stack) ctx.stack.base ctx.stack.limit → Succeeds y ctx.stack ctx.activations → (ps : List Parked) (rs : List Kept)
    → EachRests ctx ps rs → EachRests (record ctx { activations = more; home = x; stack = y }) ps rs
each_rests ctx more x y grows touch same [] [] e = tt
each_rests ctx more x y grows touch same (p ∷ ps) (r ∷ rs) e = (rests_kept ctx more x y grows touch same p r e.0, each_rests ctx more x y grows touch same ps rs e.1)
each_rests ctx more x y grows touch same ps rs e = absurd e
