-- A module with a procedure in another one, its code, and what follows: the laws of calls speak of something.
use Rattle.std.proofs.Common.{ℕ, zero, suc, ◌+◌, ◌<◌, ◌≤◌, List, [], None, ◌∷◌, map, subst, refl, arith}
use Rattle.std.proofs.lemmas.Option.{none-some, same_Some}
use Rattle.lil_base.specs.declared.request.Request.TheVariants.{WriteLn}
use Rattle.lil_resolved.specs.Resolved.{Procedure, Resolved, outline_of, Request, NoMore, Call, Empty, Then}
use Rattle.lil_meaning.specs.World.{World}
use Rattle.lil_asm.specs.Bytes.{decoded, row_6, row_7}
use Rattle.lil_table.specs.Rows.{lone_number, Translates}
use Rattle.lil_match.specs.Homes.{Listed}
use Rattle.lil_laws.specs.{Loading.Compiled, Start.Body}
use Rattle.lil_laws.specs.Start as all

-- PROCEDURE P; PROCEDURE Q; BEGIN WriteLn END Q; BEGIN Q END P; BEGIN P END
abbrev inner : Procedure
inner = record { name = 81 ∷ []; around = 1 ∷ []; locals = []; parameters = 0; result = None; body = Then (Request WriteLn NoMore) Empty }

abbrev outer : Procedure
outer = record { name = 80 ∷ []; around = []; locals = []; parameters = 0; result = None; body = Then (Call 2 1 NoMore) Empty }

abbrev text : Resolved
text = record { name = 77 ∷ []; targets = []; signatures = []; names = []; variables = []; procedures = outer ∷ inner ∷ []; body = Then (Call 1 0 NoMore) Empty }

abbrev code : List ℕ
code = 104 ∷ 0 ∷ 4 ∷ 97 ∷ 0 ∷ 101 ∷ 1 ∷ 0 ∷ 0 ∷ 106 ∷ 104 ∷ 0 ∷ 4 ∷ 97 ∷ 1 ∷ 101 ∷ 2 ∷ 0 ∷ 0 ∷ 106 ∷ 104 ∷ 0 ∷ 4 ∷ 125 ∷ 4 ∷ 106 ∷ []

translates : Translates text [] (10 ∷ 20 ∷ []) code
unfolding decoded row_6 row_7
translates = record {
  middle = 10;
  body = record {
    begun = 3;
    copies = refl;
    start = 3;
    end = 9;
    enter = refl;
    body = record {
      middle = 9;
      here = record { may = record { its = record { around = []; locals = []; parameters = 0; result = None }; known = refl; declared = refl }; returns = refl; takes = refl; start = 5; middle = 5; mark = refl; arguments = refl; call = refl };
      then = refl;
    };
    leave = refl;
  };
  procedures = (
    refl,
    record {
      middle = 20;
      here = record {
        begun = 13;
        copies = refl;
        start = 13;
        end = 19;
        enter = refl;
        body = record {
          middle = 19;
          here = record { may = record { its = record { around = 1 ∷ []; locals = []; parameters = 0; result = None }; known = refl; declared = (let less : 0 < 1 = omega arith in less, refl) }; returns = refl; takes = refl; start = 15; middle = 15; mark = refl; arguments = refl; call = refl };
          then = refl;
        };
        leave = refl;
      };
      then = (
        refl,
        record {
          middle = 26;
          here = record {
            begun = 23;
            copies = refl;
            start = 23;
            end = 25;
            enter = refl;
            body = record {
              middle = 25;
              here = record { middle = 23; takes = refl; words = refl; arguments = refl; served = tt; by = refl };
              then = refl;
            };
            leave = refl;
          };
          then = refl;
        },
      );
    },
  );
}

abbrev sample : Compiled
sample = record { text = text; strings = []; entries = 10 ∷ 20 ∷ []; code = code; translates = translates }

-- so the whole run theorem holds of it
abbrev listed : Listed
listed = record { targets = []; signatures = []; procedures = map outline_of text.procedures; number = lone_number }

same : all.Listing (sample ∷ []) listed
same zero o e = subst (all.IsListed (sample ∷ []) listed 0) (same_Some sample o e) (record { targets = refl; signatures = refl; procedures = refl; number = refl; lone = refl })
same (suc i) o e = absurd (none-some o e)

abbrev its_body : Body (sample ∷ [])
its_body = record { index = 0; its = sample; there = refl }

sample_correct : (w : World) (steps : ℕ) → all.Correct (sample ∷ []) listed same its_body [] (let room : 1 + 4 ≤ 65535 = omega arith in room) w steps
sample_correct w steps = all.correct (sample ∷ []) listed same its_body [] (let room : 1 + 4 ≤ 65535 = omega arith in room) w steps
