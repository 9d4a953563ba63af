-- The program of docs/TOUR.md, step by step.
use Rattle.std.proofs.Common.{◌≡◌, ℕ, pos, List, [], ◌∷◌, ◌++◌, map, refl}
use Rattle.lil_base.specs.{Words.Cardinal, declared.{operator.TwoOp.TheVariants.{Plus, Times}, request.Request.TheVariants.Write}}
use Rattle.lil_resolved.specs.{Kinds.{Kind, OfWhole, OfCharacter, Number, Character, Word}, Resolved.{OfModule, Designator, Variable, Chr, Expression, Constant, Taken, Two, Apply, Arguments, NoMore, given_in, ByValue, Assign, Request, Resolved, in_order}}
use Rattle.lil_meaning.specs.{Items.{Global, Place, got, Source, Item, Scalars, Places, Get, StoreAt, SetTo, LeftOf, RightOf, ApplyTo, Requested, Pass, Do, Passing, End, Value, Evaluate, PlaceOf, Fill, Perform, Ended, Going}, World.World, Runs.state_of}

abbrev k : Kind
k = OfWhole Cardinal

abbrev c : Designator
c = Variable (OfModule 0)

abbrev n : ℕ → Expression
n x = Constant k (Number (pos x))

abbrev v : ℕ → Item
v x = Value (Scalars (Number (pos x)))

abbrev times : Expression
times = Two Times k (Taken c k) (n 9)

abbrev plus : Expression
plus = Two Plus k times (n 2)

abbrev given : Arguments
given = given_in (ByValue OfCharacter (Apply Chr plus) ∷ [])

abbrev tour : Resolved
tour = record { name = []; targets = []; signatures = []; names = []; variables = Word k ∷ []; procedures = []; body = in_order (Assign c k (n 7) ∷ Request Write given ∷ []) }

abbrev at : World → ℕ → Source
at w i = state_of tour (record w { streams = []; channels = [] }) i

abbrev place : Place
place = record { root = Global 1 0; path = [] }

abbrev end : List Item
end = Perform (End 0) ∷ []

abbrev rest : List Item
rest = Perform (Do (Request Write given)) ∷ end

abbrev pass : List Item
pass = Fill (Pass (Requested Write) OfCharacter [] NoMore) ∷ end

abbrev chr : List Item
chr = Fill (ApplyTo Chr) ∷ pass

abbrev sum : List Item
sum = Fill (LeftOf Plus k (n 2)) ∷ chr

abbrev product : List Item
product = Fill (LeftOf Times k (n 9)) ∷ sum

abbrev left : World → ℕ → List Item
left w i = (at w i).items

-- what is left to do after each number of steps
steps : (w : World) → map (left w) (0 ∷ 1 ∷ 2 ∷ 3 ∷ 4 ∷ 5 ∷ 6 ∷ 7 ∷ 8 ∷ 9 ∷ 10 ∷ 11 ∷ 12 ∷ 13 ∷ 14 ∷ 15 ∷ 16 ∷ 17 ∷ 18 ∷ 19 ∷ 20 ∷ 21 ∷ 22 ∷ 23 ∷ []) ≡
    (Perform (Do (Assign c k (n 7))) ∷ rest) ∷
    (PlaceOf c ∷ Fill (SetTo k (n 7)) ∷ rest) ∷
    (Value (Places place) ∷ Fill (SetTo k (n 7)) ∷ rest) ∷
    (Evaluate (n 7) ∷ Fill (StoreAt place k) ∷ rest) ∷
    (v 7 ∷ Fill (StoreAt place k) ∷ rest) ∷
    (rest) ∷
    (Perform (Passing (Requested Write) [] given) ∷ end) ∷
    (Evaluate (Apply Chr plus) ∷ pass) ∷
    (Evaluate plus ∷ chr) ∷
    (Evaluate times ∷ sum) ∷
    (Evaluate (Taken c k) ∷ product) ∷
    (PlaceOf c ∷ Fill Get ∷ product) ∷
    (Value (Places place) ∷ Fill Get ∷ product) ∷
    (v 7 ∷ product) ∷
    (Evaluate (n 9) ∷ Fill (RightOf Times k (Number (pos 7))) ∷ sum) ∷
    (v 9 ∷ Fill (RightOf Times k (Number (pos 7))) ∷ sum) ∷
    (v 63 ∷ sum) ∷
    (Evaluate (n 2) ∷ Fill (RightOf Plus k (Number (pos 63))) ∷ chr) ∷
    (v 2 ∷ Fill (RightOf Plus k (Number (pos 63))) ∷ chr) ∷
    (v 65 ∷ chr) ∷
    (Value (Scalars (Character 65)) ∷ pass) ∷
    (Perform (Passing (Requested Write) (Scalars (Character 65) ∷ []) NoMore) ∷ end) ∷
    (end) ∷
    ([]) ∷
    []
steps w = refl

-- what is stored, shown, and how it ends
stored : (w : World) → got (at w 5).cells place ≡ Number (pos 7)
stored w = refl

shown : (w : World) → ((at w 21).world.screen ≡ w.screen) × ((at w 22).world.screen ≡ w.screen ++ 65 ∷ [])
shown w = (refl, refl)

ends : (w : World) → ((at w 23).phase ≡ Going) × ((at w 24).phase ≡ Ended)
ends w = (refl, refl)
