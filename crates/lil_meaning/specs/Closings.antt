-- Laws of closings: how many are left, and that they show nothing.
use Rattle.std.proofs.Common.{◌≡◌, ℕ, zero, suc, List, [], ◌∷◌, Option, Some, None, refl, ap, ◌∙◌, arith}
use Rattle.std.proofs.lemmas.Bool.{Decides.nat_tests}
use Rattle.lil_meaning.specs.World.{World, Stream, Channel, stream_of, other_streams, written_back, first_shut, closed_channel, closed_stream, closing, streams_open, channels_open, closings_left, or_else, closed_once, closed_times, all_closed}

-- ---- streams
none_streams : (level : ℕ) (ss : List Stream) → stream_of level ss ≡ None → streams_open level ss ≡ 0
none_streams level [] e = refl
none_streams level (s ∷ ss) e = let rest = none_streams level ss in grind (arith, nat_tests, rest)

some_streams : (level : ℕ) (ss : List Stream) (s : Stream) → stream_of level ss ≡ Some s → streams_open level ss ≡ suc (streams_open level (other_streams level ss))
some_streams level [] s e = cc
some_streams level (x ∷ ss) s e = let rest = some_streams level ss s in grind (arith, nat_tests, rest)

-- ---- channels
none_channels : (level : ℕ) (cs : List Channel) → first_shut level cs ≡ None → channels_open level cs ≡ 0
none_channels level [] e = refl
none_channels level (c ∷ cs) e = let rest = none_channels level cs in grind (arith, rest)

some_channels : (level : ℕ) (cs ds : List Channel) → first_shut level cs ≡ Some ds → channels_open level cs ≡ suc (channels_open level ds)
some_channels level [] ds e = cc
some_channels level (c ∷ cs) ds e = let rest = some_channels level cs in grind (arith, rest)

-- ---- both
back_left : (level : ℕ) (s : Stream) (w : World) → closings_left level (written_back s w) ≡ closings_left level w
back_left level s w = grind arith

pub none_left : (level : ℕ) (w : World) → closing level w ≡ None → closings_left level w ≡ 0
none_left level w e = grind (arith, none_streams level w.streams, none_channels level w.channels)

one_left : (level : ℕ) (w v : World) → closing level w ≡ Some v → closings_left level w ≡ suc (closings_left level v)
one_left level w v e = grind (arith, some_streams level w.streams, none_streams level w.streams, some_channels level w.channels, back_left level)

-- where none is left, nothing is closed; else all are that are left behind the first one
pub all_none : (level : ℕ) (w : World) → closing level w ≡ None → all_closed level w ≡ w
all_none level w e = ap (λ (n : ℕ). closed_times level n w) (none_left level w e)

pub all_some : (level : ℕ) (w v : World) → closing level w ≡ Some v → all_closed level w ≡ all_closed level v
all_some level w v e =
    ap (λ (n : ℕ). closed_times level n w) (one_left level w v e)
    ∙ ap (λ (o : Option World). closed_times level (closings_left level v) (or_else w o)) e

-- by the number of those that are left
pub fewer_left : (level : ℕ) (w v : World) (n : ℕ) → closing level w ≡ Some v → closings_left level w ≡ suc n → closings_left level v ≡ n
fewer_left level w v n e is = omega (arith, one_left level w v e)

pub some_left : (level : ℕ) (w : World) → closings_left level w ≡ 0 → closing level w ≡ None
some_left level w is = by (closing level w) refl
  where
    by : (o : Option World) → closing level w ≡ o → o ≡ None
    by None e = refl
    by (Some v) e = absurd (omega (arith, one_left level w v e))

-- ---- what a closing keeps
pub record Shut (w v : World) : Type 0 where
  pub screen : v.screen ≡ w.screen
  pub keys : v.keys ≡ w.keys

pub closing_shuts : (level : ℕ) (w v : World) → closing level w ≡ Some v → Shut w v
closing_shuts level w v e = record { screen = grind arith; keys = grind arith }

times_screen : (level n : ℕ) (w : World) → (closed_times level n w).screen ≡ w.screen
times_screen level zero w = refl
times_screen level (suc n) w = times_screen level n (closed_once level w) ∙ grind (arith, closing_shuts level w)

pub all_screen : (level : ℕ) (w : World) → (all_closed level w).screen ≡ w.screen
all_screen level w = times_screen level (closings_left level w) w

-- where nothing is open, nothing is to be closed
pub nothing_open : (level : ℕ) (w : World) → w.streams ≡ [] → w.channels ≡ [] → closing level w ≡ None
nothing_open level w streams channels =
    ap (λ (ss : List Stream). closed_stream level w (stream_of level ss)) streams ∙ ap (λ (cs : List Channel). closed_channel w (first_shut level cs)) channels
