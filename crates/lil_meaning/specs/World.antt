-- The world outside a program: keys, screen, files, streams and channels, and what a request does to it.
use Rattle.std.specs.Prelude.{ℕ, zero, suc, ◌+◌, ◌-◌, ◌/◌, ◌%◌, ◌==◌, min, nat_lt, ℤ, pos, negsuc, Bool, true, false, List, [], ◌∷◌, ◌++◌, map, length, get_or, replicate, Option, Some, None, option_map, if◌then◌else◌}
use Rattle.std.specs.{Ordering.nat_cmp, Cmp.Lexicographic.slice_cmp, FinMap.{FinMap, insert}}
use Rattle.lil_base.specs.{Words.{Integer, number_of}, Requests.takes_array, declared.request.Request.{Request, TheVariants.{Write, WriteString, WriteLn, WriteCard, WriteInt, WriteOct, WriteHex}}}

-- a finite map from names to bytes
abbrev pub Files : Type 0
Files = FinMap (slice_cmp nat_cmp) (List ℕ)

-- an open stream of a level: its file's name, its content, the place in it, and whether it was changed
pub record Stream : Type 0 where
  pub number : ℕ
  pub level : ℕ
  pub name : List ℕ
  pub content : List ℕ
  pub place : ℕ
  pub changed : Bool

-- whether a channel was never opened, is open by a level, or is closed
pub data Phase : Type 0 where
  Fresh : Phase
  OpenBy : (level : ℕ) → Phase
  Closed : Phase

pub record Channel : Type 0 where
  pub phase : Phase
  pub taken : List ℕ
  pub give : List ℕ

pub record World : Type 0 where
  -- the keys left
  pub keys : List ℕ
  -- the bytes shown
  pub screen : List ℕ
  pub files : Files
  -- the writes of files: names and whole contents
  pub writes : List (List ℕ × List ℕ)
  -- in the order of their numbers
  pub streams : List Stream
  pub channels : List Channel

-- what a run has shown and written, and the words that each channel took, with whether it is closed
pub record Output : Type 0 where
  pub screen : List ℕ
  pub writes : List (List ℕ × List ℕ)
  pub channels : List (List ℕ × Bool)

abbrev pub is_closed : Phase → Bool
is_closed Fresh = false
is_closed (OpenBy level) = false
is_closed Closed = true

abbrev pub channel_output : Channel → List ℕ × Bool
channel_output c = (c.taken, is_closed c.phase)

abbrev pub world_output : World → Output
world_output w = record { screen = w.screen; writes = w.writes; channels = map channel_output w.channels }

-- the byte that shows a character: character 30 is the line end
abbrev pub byte_of : ℕ → ℕ
byte_of c = if c == 30 then 10 else c

-- ---- numbers as texts
-- the character of a digit
abbrev pub digit : ℕ → ℕ
digit d = if nat_lt d 10 then 48 + d else 55 + d

-- the digits of a number to a base, of which there are at most so many more than one
abbrev pub digits : ℕ → ℕ → ℕ → List ℕ
digits base zero n = digit n ∷ []
digits base (suc more) n = if nat_lt n base then digit n ∷ [] else digits base more (n / base) ++ digit (n % base) ∷ []

-- a word has at most six digits to base 8, and fewer to a greater one
abbrev pub natural : ℕ → ℕ → List ℕ
natural base n = digits base 5 n

abbrev pub signed : ℤ → List ℕ
signed (pos n) = natural 10 n
signed (negsuc n) = 45 ∷ natural 10 (n + 1)

-- blanks before a text fill it to so many columns, at most 80
abbrev pub filled : ℕ → List ℕ → List ℕ
filled columns text = replicate (min columns 80 - length text) 32 ++ text

-- ---- requests
-- what a request is given, and what it answers: a word, or the characters of an array
pub data Given : Type 0 where
  Single : (w : ℕ) → Given
  Characters : (cs : List ℕ) → Given

-- an array isn't a word
abbrev pub word_in : Given → ℕ
word_in (Single w) = w
word_in (Characters cs) = 0

abbrev pub first_word : List Given → ℕ
first_word [] = 0
first_word (g ∷ gs) = word_in g

abbrev pub second_word : List Given → ℕ
second_word [] = 0
second_word (g ∷ gs) = first_word gs

-- the characters of so many words of a store from one on
abbrev pub characters_at : List ℕ → ℕ → ℕ → List ℕ
characters_at store a zero = []
characters_at store a (suc n) = get_or store a 0 % 256 ∷ characters_at store (suc a) n

abbrev pub array_at : List ℕ → List ℕ → List ℕ
array_at store (a ∷ high ∷ ws) = characters_at store a (suc high)
array_at store _ = []

-- what a request is given by its words, in the order of its parameters: WriteString has an array, by its address and the number of its last
-- element
abbrev pub given_by : Request → List ℕ → List ℕ → List Given
given_by r store ws = if takes_array r then Characters (array_at store ws) ∷ [] else map Single ws

-- the characters before the first 0C, or all
abbrev pub before_end : List ℕ → List ℕ
before_end [] = []
before_end (c ∷ cs) = if c == 0 then [] else c ∷ before_end cs

-- a word isn't an array
abbrev pub text_in : Given → List ℕ
text_in (Single w) = []
text_in (Characters cs) = cs

abbrev pub first_text : List Given → List ℕ
first_text [] = []
first_text (g ∷ gs) = text_in g

-- The piece that a request shows: Write a character, WriteString the characters of an array before the first 0C, or all, WriteLn a line end,
-- WriteCard and WriteInt a number in decimal, WriteOct in octal and WriteHex in hexadecimal, each filled to the columns that its second word
-- says.
abbrev pub piece_of : Request → List Given → List ℕ
piece_of Write given = byte_of (first_word given % 256) ∷ []
piece_of WriteString given = map byte_of (before_end (first_text given))
piece_of WriteLn given = 10 ∷ []
piece_of WriteCard given = filled (second_word given) (natural 10 (first_word given))
piece_of WriteInt given = filled (second_word given) (signed (number_of Integer (first_word given)))
piece_of WriteOct given = filled (second_word given) (natural 8 (first_word given))
piece_of WriteHex given = filled (second_word given) (natural 16 (first_word given))

-- a request of a level: the world behind it, and what it answers. Those that only write answer nothing
abbrev pub serve : (level : ℕ) → Request → List Given → World → World × List Given
serve level r given w = (record w { screen = w.screen ++ piece_of r given }, [])

-- ---- the end of a level: its streams are closed in the order of their numbers, and then its channels
-- the first stream of a level, and the others
abbrev pub stream_of : ℕ → List Stream → Option Stream
stream_of level [] = None
stream_of level (s ∷ ss) = if s.level == level then Some s else stream_of level ss

abbrev pub other_streams : ℕ → List Stream → List Stream
other_streams level [] = []
other_streams level (s ∷ ss) = if s.level == level then ss else s ∷ other_streams level ss

-- a stream's file has its content, where that was changed
abbrev pub written_back : Stream → World → World
written_back s w = if s.changed then record w { files = insert w.files s.name s.content; writes = w.writes ++ (s.name, s.content) ∷ [] } else w

abbrev pub is_open : ℕ → Phase → Bool
is_open level (OpenBy l) = l == level
is_open level _ = false

-- a level's first channel is closed, if it has one
abbrev pub first_shut : ℕ → List Channel → Option (List Channel)
first_shut level [] = None
first_shut level (c ∷ cs) = if is_open level c.phase then Some (record c { phase = Closed } ∷ cs) else option_map (λ ds. c ∷ ds) (first_shut level cs)

-- one closing, where one is left
abbrev pub closed_channel : World → Option (List Channel) → Option World
closed_channel w o = option_map (λ cs. record w { channels = cs }) o

abbrev pub closed_stream : ℕ → World → Option Stream → Option World
closed_stream level w None = closed_channel w (first_shut level w.channels)
closed_stream level w (Some s) = Some (written_back s (record w { streams = other_streams level w.streams }))

abbrev pub closing : ℕ → World → Option World
closing level w = closed_stream level w (stream_of level w.streams)

-- how many closings are left
abbrev pub streams_open : ℕ → List Stream → ℕ
streams_open level [] = 0
streams_open level (s ∷ ss) = if s.level == level then suc (streams_open level ss) else streams_open level ss

abbrev pub channels_open : ℕ → List Channel → ℕ
channels_open level [] = 0
channels_open level (c ∷ cs) = if is_open level c.phase then suc (channels_open level cs) else channels_open level cs

abbrev pub closings_left : ℕ → World → ℕ
closings_left level w = streams_open level w.streams + channels_open level w.channels

-- one, so many and all closings
abbrev pub or_else : World → Option World → World
or_else w None = w
or_else w (Some v) = v

abbrev pub closed_once : ℕ → World → World
closed_once level w = or_else w (closing level w)

abbrev pub closed_times : ℕ → ℕ → World → World
closed_times level zero w = w
closed_times level (suc n) w = closed_times level n (closed_once level w)

abbrev pub all_closed : ℕ → World → World
all_closed level w = closed_times level (closings_left level w) w
