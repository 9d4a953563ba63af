-- Each step of the meaning adds a piece to the screen, and keeps the keys and the writes: no request reads or writes them yet.
use Rattle.std.proofs.Common.{◌≡◌, ◌≢◌, ◌⊎◌, inl, inr, ℕ, zero, suc, ◌+◌, ◌-◌, ◌<◌, ◌≤◌, List, [], ◌∷◌, ◌++◌, Some, None, refl, sym, ap, ◌∙◌, subst, arith, append_assoc}
use Rattle.std.proofs.lemmas.{Bool.cases_lt, List.{append-nil, append_cancel_left}}
use Rattle.lil_resolved.specs.Resolved.{Resolved}
use Rattle.lil_meaning.specs.{World.{World, piece_of}, Closings.{closing_shuts, nothing_open}, Items.Source, Steps.next, Runs.after}
use Rattle.lil_laws.specs.{Whole.after_sum, Serves.{Turns, next_serves}}

-- a later state has shown more, with the same keys
pub record Grows (s t : Source) : Type 0 where
  pub piece : List ℕ
  pub adds : t.world.screen ≡ s.world.screen ++ piece
  pub keys : t.world.keys ≡ s.world.keys

next_grows : (s t : Source) → Turns s t → Grows s t
next_grows s t (inl same) = record {
  piece = [];
  adds = ap (λ (w : World). w.screen) same ∙ sym (append-nil s.world.screen);
  keys = ap (λ (w : World). w.keys) same;
}
next_grows s t (inr (inl (r, given, is))) = record {
  piece = piece_of r given;
  adds = ap (λ (w : World). w.screen) is;
  keys = ap (λ (w : World). w.keys) is;
}
next_grows s t (inr (inr (level, is))) =
    let shut = closing_shuts level s.world t.world is in
    record { piece = []; adds = shut.screen ∙ sym (append-nil s.world.screen); keys = shut.keys }

-- where nothing is open, nothing is written, and nothing is opened
pub record Writes (s t : Source) : Type 0 where
  pub writes : t.world.writes ≡ s.world.writes
  pub streams : t.world.streams ≡ []
  pub channels : t.world.channels ≡ []

next_writes : (s t : Source) → s.world.streams ≡ [] → s.world.channels ≡ [] → Turns s t → Writes s t
next_writes s t streams channels (inl same) =
    record { writes = ap (λ (w : World). w.writes) same; streams = ap (λ (w : World). w.streams) same ∙ streams; channels = ap (λ (w : World). w.channels) same ∙ channels }
next_writes s t streams channels (inr (inl (r, given, is))) =
    record { writes = ap (λ (w : World). w.writes) is; streams = ap (λ (w : World). w.streams) is ∙ streams; channels = ap (λ (w : World). w.channels) is ∙ channels }
next_writes s t streams channels (inr (inr (level, is))) = absurd (let clash : None ≡ Some t.world = sym (nothing_open level s.world streams channels) ∙ is in cc)

pub after_writes : (library : List Resolved) (n : ℕ) (s : Source) → s.world.streams ≡ [] → s.world.channels ≡ [] → (after library n s).world.writes ≡ s.world.writes
after_writes library zero s streams channels = refl
after_writes library (suc n) s streams channels =
    let one = next_writes s (next library s) streams channels (next_serves library s).world in
    after_writes library n (next library s) one.streams one.channels ∙ one.writes

pub after_grows : (library : List Resolved) (n : ℕ) (s : Source) → Grows s (after library n s)
after_grows library zero s = record { piece = []; adds = sym (append-nil s.world.screen); keys = refl }
after_grows library (suc n) s =
    let one = next_grows s (next library s) (next_serves library s).world in
    let rest = after_grows library n (next library s) in
    record {
      piece = one.piece ++ rest.piece;
      adds = rest.adds ∙ ap (λ (l : List ℕ). l ++ rest.piece) one.adds ∙ append_assoc s.world.screen one.piece rest.piece;
      keys = rest.keys ∙ one.keys;
    }

-- a later number of steps has shown more
pub later_grows : (library : List Resolved) (i n : ℕ) (s : Source) → i ≤ n → Grows (after library i s) (after library n s)
later_grows library i n s le =
    let sum : n ≡ i + (n - i) = omega arith in
    let there : after library (n - i) (after library i s) ≡ after library n s = sym (after_sum library i (n - i) s) ∙ ap (λ (k : ℕ). after library k s) (sym sum) in
    subst (λ (t : Source). Grows (after library i s) t) there (after_grows library (n - i) (after library i s))

-- A step that shows something where so much was shown before: the first of those by which a piece came.
pub record Adds (library : List Resolved) (s : Source) (shown piece : List ℕ) : Type 0 where
  pub m : ℕ
  pub before : (after library m s).world.screen ≡ shown
  pub first : List ℕ
  pub some : first ≢ []
  pub behind : (after library (suc m) s).world.screen ≡ shown ++ first
  -- what came after it
  pub rest : List ℕ
  pub whole : piece ≡ first ++ rest

longer : (piece more : List ℕ) → piece ≢ [] → [] ≢ piece ++ more
longer [] more some e = some refl
longer (b ∷ piece) more some e = cc

more_than_none : (l piece : List ℕ) → piece ≢ [] → l ≢ l ++ piece
more_than_none l piece some e = some (sym (append_cancel_left l [] piece (append-nil l ∙ e)))

found : (library : List Resolved) (k : ℕ) (s : Source) (shown piece : List ℕ) → piece ≢ [] → s.world.screen ≡ shown → (after library k s).world.screen ≡ shown ++ piece → Adds library s shown piece
found library zero s shown piece some at e = absurd (more_than_none shown piece some (sym at ∙ e))
found library (suc k) s shown piece some at e = by_cases (λ same. found library k (next library s) shown piece some (same ∙ at) e) (next_serves library s).world
  where
    t : Source
    t = next library s

    quiet : Adds library t shown piece → Adds library s shown piece
    quiet f = record { m = suc f.m; before = f.before; first = f.first; some = f.some; behind = f.behind; rest = f.rest; whole = f.whole }

    adds : (first : List ℕ) → first ≢ [] → t.world.screen ≡ s.world.screen ++ first → Adds library s shown piece
    adds first more is =
        let g = after_grows library k t in
        let here : t.world.screen ≡ shown ++ first = is ∙ ap (λ (l : List ℕ). l ++ first) at in
        let both : shown ++ piece ≡ shown ++ (first ++ g.piece) = sym e ∙ g.adds ∙ ap (λ (l : List ℕ). l ++ g.piece) here ∙ append_assoc shown first g.piece in
        record { m = 0; before = at; first = first; some = more; behind = here; rest = g.piece; whole = append_cancel_left shown piece (first ++ g.piece) both }

    by_piece : (t.world.screen ≡ s.world.screen → Adds library t shown piece) → (first : List ℕ) → t.world.screen ≡ s.world.screen ++ first → Adds library s shown piece
    by_piece rest [] is = quiet (rest (is ∙ append-nil s.world.screen))
    by_piece rest (b ∷ more) is = adds (b ∷ more) (λ none. cc) is

    by_cases : (t.world.screen ≡ s.world.screen → Adds library t shown piece) → Turns s t → Adds library s shown piece
    by_cases rest (inl same) = quiet (rest (ap (λ (w : World). w.screen) same))
    by_cases rest (inr (inl (r, given, is))) = by_piece rest (piece_of r given) (ap (λ (w : World). w.screen) is)
    by_cases rest (inr (inr (level, is))) = quiet (rest (closing_shuts level s.world t.world is).screen)

-- Where one state has shown a piece more than another, some step began it behind what that other has shown.
pub next_piece : (library : List Resolved) (s : Source) (c d : ℕ) (piece : List ℕ) → piece ≢ [] → (after library d s).world.screen ≡ (after library c s).world.screen ++ piece
    → Adds library s (after library c s).world.screen piece
next_piece library s c d piece some e = by_order (cases_lt c d)
  where
    shown : List ℕ
    shown = (after library c s).world.screen

    by_order : (c < d) ⊎ (d ≤ c) → Adds library s shown piece
    by_order (inl less) =
        let sum : d ≡ c + (d - c) = omega arith in
        let there : (after library (d - c) (after library c s)).world.screen ≡ shown ++ piece =
        ap (λ (t : Source). t.world.screen) (sym (after_sum library c (d - c) s) ∙ ap (λ (n : ℕ). after library n s) (sym sum)) ∙ e in
        let f = found library (d - c) (after library c s) shown piece some refl there in
        let next_one : suc (c + f.m) ≡ c + suc f.m = omega arith in
        record {
          m = c + f.m;
          before = ap (λ (t : Source). t.world.screen) (after_sum library c f.m s) ∙ f.before;
          first = f.first;
          some = f.some;
          behind = ap (λ (n : ℕ). (after library n s).world.screen) next_one ∙ ap (λ (t : Source). t.world.screen) (after_sum library c (suc f.m) s) ∙ f.behind;
          rest = f.rest;
          whole = f.whole;
        }
    by_order (inr less) =
        let g = later_grows library d c s less in
        let whole : shown ++ [] ≡ shown ++ (piece ++ g.piece) = append-nil shown ∙ g.adds ∙ ap (λ (l : List ℕ). l ++ g.piece) e ∙ append_assoc shown piece g.piece in
        absurd (longer piece g.piece some (append_cancel_left shown [] (piece ++ g.piece) whole))
