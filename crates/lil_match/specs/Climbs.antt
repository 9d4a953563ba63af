-- The frame so many static links out is that of the activation so many levels out.
use Rattle.std.proofs.Common.{◌≡◌, ℕ, zero, suc, ◌+◌, ◌<◌, ◌≤◌, inl, inr, Some, List, [], ◌∷◌, length, drop, get_or, drop-cons, refl, sym, ap, ◌∙◌, subst, arith}
use Rattle.std.proofs.lemmas.Option.{same_Some, slice_get_within}
use Rattle.std.specs.Prelude.{slice_index, slice_get, option_and_then}
use Rattle.lil_meaning.specs.{Items.Activation, Steps.{surrounding, level_out}}
use Rattle.lil_mcode.specs.Table.{frame_out}
use Rattle.lil_match.specs.{Homes.{Owner, Own}, Waits.Frame, Goes.{Stands, Among, LinkedTo, Linked, Chained}}

-- the links of one of the frames, whose frames below are some of them
pub record LinkedAt (shadow : ℕ → ℕ) (acts : List Activation) (fs : List Frame) (to : Frame) : Type 0 where
  pub under : List Frame
  pub link : Linked shadow acts to.activation to.number to.at to.display to.layout.scope.chain under
  pub within : (g : Frame) → Among g under → Among g fs

pub linked_at : (shadow : ℕ → ℕ) (acts : List Activation) (f : Frame) (gs : List Frame) → Chained shadow acts f gs → (to : Frame) → Among to (f ∷ gs) → LinkedAt shadow acts (f ∷ gs) to
linked_at shadow acts f [] c to (inl e) = subst (λ (g : Frame). LinkedAt shadow acts (f ∷ []) g) (sym e) (record { under = []; link = c; within = λ g m. absurd m })
linked_at shadow acts f [] c to (inr m) = absurd m
linked_at shadow acts f (g ∷ gs) c to (inl e) = subst (λ (y : Frame). LinkedAt shadow acts (f ∷ g ∷ gs) y) (sym e) (record { under = g ∷ gs; link = c.0; within = λ y m. inr m })
linked_at shadow acts f (g ∷ gs) c to (inr m) =
    let l = linked_at shadow acts g gs c.1 to m in
    record { under = l.under; link = l.link; within = λ y m. inr (l.within y m) }

-- the first word of a frame is the machine's own
pub first_own : (owner : ℕ → Owner) (base top : ℕ) (f : Frame) (gs : List Frame) → Stands owner base top f gs → (to : Frame) → Among to (f ∷ gs) → owner to.at ≡ Own
first_own owner base top f [] s to (inl e) =
    ap (λ (g : Frame). owner g.at) e ∙ ap owner (let z : f.at ≡ f.at + 0 = omega arith in z) ∙ s.0.own 0 (inl (omega arith)) (omega (arith, s.0.mark, s.0.top_is))
first_own owner base top f [] s to (inr m) = absurd m
first_own owner base top f (g ∷ gs) s to (inl e) =
    ap (λ (y : Frame). owner y.at) e ∙ ap owner (let z : f.at ≡ f.at + 0 = omega arith in z) ∙ s.0.own 0 (inl (omega arith)) (omega (arith, s.0.mark, s.0.top_is))
first_own owner base top f (g ∷ gs) s to (inr m) = first_own owner base f.at g gs s.1 to m

-- the display of a frame in procedures begins with it
first_shown : (shadow : ℕ → ℕ) (acts : List Activation) (a number at : ℕ) (display chain : List ℕ) (gs : List Frame) → 0 < length chain → Linked shadow acts a number at display chain gs → (rest : List ℕ) × (display ≡ at ∷ rest)
first_shown shadow acts a number at display [] gs less l = absurd (omega (arith, less))
first_shown shadow acts a number at display (p ∷ []) gs less l = ([], l)
first_shown shadow acts a number at display (p ∷ e ∷ es) gs less l = (l.to.display, l.display)

left_next : (xs : List ℕ) (i y : ℕ) (ys : List ℕ) → drop i xs ≡ y ∷ ys → (slice_get xs i ≡ Some y) × (drop (suc i) xs ≡ ys)
left_next [] zero y ys e = cc
left_next [] (suc i) y ys e = cc
left_next (x ∷ xs) zero y ys e = (cc, cc)
left_next (x ∷ xs) (suc i) y ys e = left_next xs i y ys e

-- the frame of the activation i levels out, which is that of the procedure with those around it
pub record Climbs (acts : List Activation) (store : List ℕ) (f : Frame) (gs : List Frame) (i : ℕ) : Type 0 where
  pub to : Frame
  pub among : Among to (f ∷ gs)
  pub level : level_out acts f.activation i ≡ Some to.activation
  pub owner : to.number ≡ f.number
  pub chain : to.layout.scope.chain ≡ drop i f.layout.scope.chain
  pub display : drop i f.display ≡ to.display
  pub shown : slice_get f.display i ≡ Some to.at
  pub reached : frame_out store f.at i ≡ to.at

module _ (shadow : ℕ → ℕ) (acts : List Activation) (store : List ℕ) (f : Frame) (gs : List Frame) (chained : Chained shadow acts f gs) (kept : (g : Frame) → Among g (f ∷ gs) → get_or store g.at 0 ≡ shadow g.at) where
  -- THE law of outer variables and of marks
  pub climbs : (i : ℕ) → i < length f.layout.scope.chain → Climbs acts store f gs i
  climbs zero less =
      let l = linked_at shadow acts f gs chained f (inl refl) in
      let first = first_shown shadow acts f.activation f.number f.at f.display f.layout.scope.chain l.under less l.link in
      record { to = f; among = inl refl; level = refl; owner = refl; chain = refl; display = refl; shown = (left_next f.display 0 f.at first.0 first.1).0; reached = refl }
  climbs (suc i) less =
      let c = climbs i (omega (arith, less)) in
      let next = drop-cons f.layout.scope.chain (suc i) 0 less in
      let l = linked_at shadow acts f gs chained c.to c.among in
      let link : LinkedTo shadow acts c.to.activation c.to.number c.to.at c.to.display (get_or f.layout.scope.chain (suc i) 0) (drop (suc (suc i)) f.layout.scope.chain) l.under =
      subst (λ (es : List ℕ). Linked shadow acts c.to.activation c.to.number c.to.at c.to.display es l.under) (c.chain ∙ drop-cons f.layout.scope.chain i 0 (omega (arith, less)) ∙ ap (λ (es : List ℕ). get_or f.layout.scope.chain i 0 ∷ es) next) l.link in
      let along : drop (suc i) f.display ≡ link.to.display = (left_next f.display i c.to.at link.to.display (c.display ∙ link.display)).1 in
      let on = linked_at shadow acts f gs chained link.to (l.within link.to link.among) in
      let first = first_shown shadow acts link.to.activation link.to.number link.to.at link.to.display link.to.layout.scope.chain on.under (omega (arith, ap length link.chain)) on.link in
      record {
        to = link.to;
        among = l.within link.to link.among;
        level = ap (option_and_then (surrounding acts)) c.level ∙ link.outer;
        owner = link.owner ∙ c.owner;
        chain = link.chain ∙ sym next;
        display = along;
        shown = (left_next f.display (suc i) link.to.at first.0 (along ∙ first.1)).0;
        reached = ap (slice_index store) c.reached ∙ kept c.to c.among ∙ link.word;
      }

  -- a display is as long as the chain
  long_by : (chain : List ℕ) (to : Frame) (l : LinkedAt shadow acts (f ∷ gs) to) → Linked shadow acts to.activation to.number to.at to.display chain l.under
      → ((g : Frame) → Among g (f ∷ gs) → length g.layout.scope.chain < length chain → length g.display ≡ length g.layout.scope.chain) → length to.display ≡ length chain
  long_by [] to l link rest = ap length link
  long_by (p ∷ []) to l link rest = ap length link
  long_by (p ∷ e ∷ es) to l link rest =
      omega (arith, ap length link.display, rest link.to (l.within link.to link.among) (omega (arith, ap length link.chain)), ap length link.chain)

  long_display : (n : ℕ) (to : Frame) → Among to (f ∷ gs) → length to.layout.scope.chain ≤ n → length to.display ≡ length to.layout.scope.chain
  long_display zero to among le = let l = linked_at shadow acts f gs chained to among in long_by to.layout.scope.chain to l l.link (λ g m less. absurd (omega (arith, less, le)))
  long_display (suc n) to among le = let l = linked_at shadow acts f gs chained to among in long_by to.layout.scope.chain to l l.link (λ g m less. long_display n g m (omega (arith, less, le)))

  -- the frame that a display shows so many levels out
  pub shown_out : (n first : ℕ) → slice_get f.display n ≡ Some first → frame_out store f.at n ≡ first
  shown_out n first is =
      let less : n < length f.layout.scope.chain = omega (arith, slice_get_within f.display n first is, long_display (length f.layout.scope.chain) f (inl refl) (omega arith)) in
      let c = climbs n less in
      c.reached ∙ same_Some c.to.at first (sym c.shown ∙ is)
