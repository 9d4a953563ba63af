-- The code of statements, form by form.
use Rattle.std.proofs.Common.{◌≡◌, ℕ, zero, suc, ◌+◌, ◌*◌, ◌%◌, ◌<◌, ◌≤◌, min, Bool, true, List, [], ◌∷◌, ◌++◌, length, map, take, get_or, Option, Some, None, refl, sym, ap, ◌∙◌, subst, arith, append-nil, append_assoc, ℤ, Result, OnOk}
use Rattle.std.specs.{Option.{is_some, option_map}, List.flat_map}
use Rattle.std.proofs.lemmas.List.{take_more, take_all, length-take-le}
use Rattle.lil_base.specs.Words.{word_of}
use Rattle.lil_resolved.specs.{declared.resolved.{RExpr.RExpr, RStmt.RStmt, RArm.RArm, RLabel.RLabel}, Kinds.{Kind, compared_as, is_ordinal, OfTruth, base_of, covers, outside_turns, Shape, Scope, with_held, shape_at}, Resolved.{Named, Label, Arms, kind_of, Designator, Expression, Statement, While, Repeat, Loop, For, Inside, Statements, Empty, Then, shape_of}}
use Rattle.lil_resolved.specs.{Views.{expression_of, statement_of, statements_of, label_of, else_of, arms_of, case_is, arm_is, joined, guarded, guard_of, guards_of, shapes_of, guard_is}, Sizes.{arms_words, place_strings, expression_strings, body_strings, arms_strings, statement_strings}, Sound.{IsSoundLabel, AreSoundLabels, AreSoundArms, IsSoundBody}, declared.resolved.RGuard.RGuard}
use Rattle.lil_resolved.specs.declared.resolved.RStmt.TheVariants as s
use Rattle.lil_asm.specs.declared.instr.Instr.{Instr, TheVariants.{Jmp, Cas, Trp, Liw, Llw, Slw, Jpf, Fri, Frn}}
use Rattle.lil_table.specs.{Rows.{framed, IsAt, Access, access_at, store_code, EntriesAt, ArmsAt, loop_place, Layout, holding, BodyAt, loop_sign, test_code}, LabelLaws.label_in}
use Rattle.lil_labels.specs.{Drafts.{Draft, Final, EntryAt, Entering, Meaning, Adds, Emits, Nothing, Doing, Each, Marking, Makes, Ends, inside, outside, DoingAll}, Emitting.{with_ok, take_next, each_more, emits_then, emits_as, adds_as, emits_within, emits_here, emits_fresh, emits_mark, emits_tied, emits_inside}, Tables.{Tables, declared_at, variable_by}}
use Rattle.lil_expr.specs.{Strings.emits_end, Generating.{Value, Addressed}, Variables.{known_row, known_access}}
use Rattle.lil_stmt.specs.Generating.{Body, StatementPart, statement_part, GuardPart, guard_part, paired, ArmPart, ArmBody, arm_part, Trapping, ElsePart, HasWords, LabelEntry, ArmLabels, ChoiceOf, entries, Stated, Aligning}
use Rattle.lil_stmt.proofs.{Words.in_word, Counting.joined_words, Strings.{case_strings, body_parts, if_strings}, Storing.whole}

-- ---- one behind another
pub one_emitted : (n : ℕ) (exit : Option ℕ) (s : Statement) (ss : Statements) (a b : Draft) → ss ≡ Then s Empty → Adds (statement_strings s) a b (Stated n exit s) → Adds (body_strings ss) a b (Body n exit ss)
one_emitted n exit s ss a b is t =
    subst (λ (ss : Statements). Adds (body_strings ss) a b (Body n exit ss)) (sym is)
    (adds_as a b _ (sym (append-nil (statement_strings s)))
    (emits_as a b _ (Body n exit (Then s Empty)) (λ x t many taken sound room. record { middle = length b.bytes; here = t many taken sound.0 (omega (arith, room)); then = refl }) t))

pub stated : {T E : Type 0} (r : Result T E) (n : ℕ) (exit : Option ℕ) (s : Statement) (ss : Statements) (a b : Draft) → ss ≡ Then s Empty → OnOk r ((n : ℕ) (exit : Option ℕ) → Adds (statement_strings s) a b (Stated n exit s))
    → OnOk r (Adds (body_strings ss) a b (Body n exit ss))
stated r n exit s ss a b is = with_ok r (λ h. one_emitted n exit s ss a b is (h n exit))

sound_joined : (ts : Scope) (looping : Bool) (a b : Statements) → IsSoundBody ts looping (joined a b) → IsSoundBody ts looping a × IsSoundBody ts looping b
sound_joined ts looping Empty b h = (tt, h)
sound_joined ts looping (Then s a) b h = let rest = sound_joined ts looping a b h.1 in ((h.0, rest.0), rest.1)

joined_at : (l : Layout) (code : List ℕ) (n : ℕ) (exit : Option ℕ) (a b : Statements) (p q r : ℕ) → BodyAt l code n exit a p q → BodyAt l code n exit b q r → BodyAt l code n exit (joined a b) p r
joined_at l code n exit Empty b p q r first rest = subst (λ (m : ℕ). BodyAt l code n exit b m r) (sym first) rest
joined_at l code n exit (Then s a) b p q r first rest = record { middle = first.middle; here = first.here; then = joined_at l code n exit a b first.middle q r first.then rest }

body_at : (n : ℕ) (exit : Option ℕ) (ss : List RStmt) (x : Final) (p q : ℕ) → Each (StatementPart n exit) ss x p q → Body n exit (statements_of ss) x p q
body_at n exit [] x p q h many taken sound room = h
body_at n exit (s ∷ ss) x p q h many taken sound room =
    let parts = sound_joined x.layout.scope (is_some exit) (statement_of s) (statements_of ss) sound in
    let loops = joined_words (statement_of s) (statements_of ss) in
    joined_at x.layout x.code many _ (statement_of s) (statements_of ss) p h.0 q (h.1 many taken parts.0 (omega (arith, loops, room))) (body_at n exit ss x h.0 q h.2 many taken parts.1 (omega (arith, loops, room)))

pub body_emitted : (n : ℕ) (exit : Option ℕ) (ss : List RStmt) (i : ℕ) (a b : Draft) → length ss ≤ i → Adds (flat_map statement_part (take i ss)) a b (Each (StatementPart n exit) (take i ss)) → Adds (body_strings (statements_of ss)) a b (Body n exit (statements_of ss))
body_emitted n exit ss i a b past t =
    let all = subst (λ (ss : List RStmt). Adds (flat_map statement_part ss) a b (Each (StatementPart n exit) ss)) (take_all i ss past) t in
    adds_as a b _ (body_parts ss) (emits_as a b _ (Body n exit (statements_of ss)) (λ x h. body_at n exit ss x _ _ h) all)

-- ---- loops
module _ (n : ℕ) (exit : Option ℕ) (k : Expression) (s : Statements) where
  pub while_emitted : (again end : ℕ) (a b c d e f g h : Draft) → Emits a b (Marking again) → Adds (expression_strings k) b c (Value k) → Emits c d Nothing → Makes c d end → Emits d e (Doing (λ w. Jpf (w end)))
      → Adds (body_strings s) e f (Body n exit s) → Emits f g (Doing (λ w. Jmp (w again))) → Ends g h end → Adds (expression_strings k ++ body_strings s) a h (Stated n exit (While k s))
  while_emitted again end a b c d e f g h mark test new makes jump body back put =
      emits_as a h _ (Stated n exit (While k s))
      (λ x t many taken sound room.
      search (whole x 0 k OfTruth _ _ (omega arith) sound.0 t.0.1.0, t.0.1.1.1.0 many taken sound.1 room, rw t.1 at t.0.1.1.0, rw t.0.0 at t.0.1.1.1.1))
      (emits_here a g h _ end
      (emits_mark a b g again _ mark (emits_then b c g _ _ test (emits_fresh c d g _ new (emits_then d e g _ _ jump (emits_end e f g _ _ body back)))))
      (λ k h. makes.apart k (test.keeps k (mark.keeps k h))) put)

  pub repeat_emitted : (again : ℕ) (a b c d e : Draft) → Emits a b (Marking again) → Adds (body_strings s) b c (Body n exit s) → Adds (expression_strings k) c d (Value k) → Emits d e (Doing (λ w. Jpf (w again)))
      → Adds (body_strings s ++ expression_strings k) a e (Stated n exit (Repeat s k))
  repeat_emitted again a b c d e mark body test back =
      emits_as a e _ (Stated n exit (Repeat s k))
      (λ x t many taken sound room.
      search (t.1.0 many taken sound.0 room, whole x 0 k OfTruth _ _ (omega arith) sound.1 t.1.1.0, rw t.0 at t.1.1.1))
      (emits_mark a b e again _ mark (emits_then b c e _ _ body (emits_end c d e _ _ test back)))

pub loop_emitted : (n : ℕ) (exit : Option ℕ) (s : Statements) (again end : ℕ) (a b c d e f : Draft)
    → Emits a b (Marking again) → Emits b c Nothing → Makes b c end → Adds (body_strings s) c d (Body n (Some end) s) → Emits d e (Doing (λ w. Jmp (w again))) → Ends e f end → Adds (body_strings s) a f (Stated n exit (Loop s))
loop_emitted n exit s again end a b c d e f mark new makes body back put =
    adds_as a f _ (append-nil (body_strings s))
    (emits_as a f _ (Stated n exit (Loop s))
    (λ x t many taken sound room.
    search (rw t.1 at (t.0.1.0 many taken sound room), rw t.0.0 at t.0.1.1))
    (emits_here a e f _ end (emits_mark a b e again _ mark (emits_fresh b c e _ new (emits_then c d e _ _ body back))) (λ k h. makes.apart k (mark.keeps k h)) put))

-- ---- IF
-- a guard before whatever statements end at a label
pub guard_emitted : (n : ℕ) (exit : Option ℕ) (g : RGuard) (end other : ℕ) (a b c d e f h : Draft)
    → Adds (expression_strings (expression_of g.condition)) a b (Value (expression_of g.condition)) → Emits b c Nothing → Makes b c other → Emits c d (Doing (λ w. Jpf (w other)))
    → Adds (body_strings (statements_of g.body)) d e (Body n exit (statements_of g.body)) → Emits e f (Doing (λ w. Jmp (w end))) → Ends f h other → Adds (guard_part g) a h (GuardPart n exit end g)
guard_emitted n exit g end other a b c d e f h test new makes jump body skip put =
    emits_as a h _ (GuardPart n exit end g)
    (λ x t rest r ended more.
    subst (λ (ss : Statements). Body n exit ss x (length a.bytes) r) (sym (guard_is g rest))
    (λ many taken sound room. record {
      middle = r;
      here = search (whole x 0 _ OfTruth _ _ (omega arith) sound.0.0 t.0.0, rw t.1 at t.0.1.0, t.0.1.1.0 many taken sound.0.1 (omega (arith, room)), rw ended at t.0.1.1.1, more many taken sound.0.2 (omega (arith, room)));
      then = refl;
    }))
    (emits_here a f h _ other (emits_then a b f _ _ test (emits_fresh b c f _ new (emits_then c d f _ _ jump (emits_end d e f _ _ body skip)))) (λ k h. makes.apart k (test.keeps k h)) put)

guards_at : (n : ℕ) (exit : Option ℕ) (end : ℕ) (gs : List RGuard) (x : Final) (p q r : ℕ) (rest : Statements) → Each (GuardPart n exit end) gs x p q → x.word end ≡ x.layout.target r → Body n exit rest x q r → Body n exit (guarded (map guard_of gs) rest) x p r
guards_at n exit end [] x p q r rest h ended more = subst (λ (p : ℕ). Body n exit rest x p r) (sym h) more
guards_at n exit end (g ∷ gs) x p q r rest h ended more = h.1 (guarded (map guard_of gs) rest) r ended (guards_at n exit end gs x h.0 q r rest h.2 ended more)

pub if_emitted : (n : ℕ) (exit : Option ℕ) (gs : List RGuard) (other : List RStmt) (end : ℕ) (a b c d e : Draft)
    → Emits a b Nothing → Makes a b end → Adds (flat_map guard_part gs) b c (Each (GuardPart n exit end) gs) → Adds (body_strings (statements_of other)) c d (Body n exit (statements_of other)) → Ends d e end
    → Adds (body_strings (guards_of gs other)) a e (Body n exit (guards_of gs other))
if_emitted n exit gs other end a b c d e new makes guards otherwise put =
    adds_as a e _ (if_strings gs other)
    (emits_as a e _ (Body n exit (guards_of gs other))
    (λ x t. guards_at n exit end gs x _ _ _ (statements_of other) t.0.0 t.1 t.0.1)
    (emits_here a d e _ end (emits_fresh a b d _ new (emits_then b c d _ _ guards otherwise)) makes.apart put))

-- ---- FOR
-- how code has a variable, and the store in it
abbrev access_by : Tables → Named → Access
access_by ts v = access_at v (variable_by (declared_at ts v)).offset

abbrev Storing : Named → Meaning
Storing v x p q = IsAt x.code p (store_code (access_by x.tables v)) q

store_emitted : (v : Named) (at : Access) (a b : Draft) → at ≡ access_by a.tables v → Emits a b (Doing (λ w. store_code at)) → Emits a b (Storing v)
store_emitted v at a b is store =
    emits_as a b _ (Storing v)
    (λ x t. subst (λ (at : Access). IsAt x.code (length a.bytes) (store_code at) (length b.bytes)) (is ∙ ap (λ (ts : Tables). access_by ts v) (sym t.1)) t.0)
    (emits_tied a b _ store)

module _ (n : ℕ) (exit : Option ℕ) (v : Named) (k : Kind) (from to : Expression) (step : ℤ) (body : Statements) where
  pub for_emitted : (word place sign inner end turn : ℕ) (at : Access) (c0 c1 c2 c3 c4 c5 c6 c7 c8 c9 c10 c11 c12 c13 : Draft) → word ≡ word_of step → place ≡ framed (loop_place n)
      → sign ≡ loop_sign (compared_as (base_of k)) → at ≡ access_by c9.tables v → inner ≡ min (n + 3) 65535 → Adds (expression_strings from) c0 c1 (Value from) → Adds (expression_strings to) c1 c2 (Value to) → Emits c2 c3 Nothing → Makes c2 c3 end
      → Emits c3 c4 (Aligning (covers (base_of k) (kind_of from)) (outside_turns (compared_as (base_of k)) step) end) → Emits c4 c5 (Doing (λ w. Liw word)) → Emits c5 c6 (Doing (λ w. Fri place sign (w end)))
      → Emits c6 c7 (Marking turn) → Emits c7 c8 (Doing (λ w. Llw place)) → Emits c8 c9 (DoingAll (test_code k (base_of k))) → Emits c9 c10 (Doing (λ w. store_code at)) → Adds (body_strings body) c10 c11 (Body inner exit body)
      → Emits c11 c12 (Doing (λ w. Frn place (w turn))) → Ends c12 c13 end → Adds (expression_strings from ++ expression_strings to ++ body_strings body) c0 c13 (Stated n exit (For v k from to step body))
  for_emitted word place sign inner end turn at c0 c1 c2 c3 c4 c5 c6 c7 c8 c9 c10 c11 c12 c13 stepped placed signed lies deeper first last new makes align load enter mark value test store here next put =
      adds_as c0 c13 _ (sym (append_assoc (expression_strings from) (expression_strings to) (body_strings body)))
      (emits_as c0 c13 _ (Stated n exit (For v k from to step body))
      (λ x t many taken sound room.
      let written = framed (loop_place many) in
      let at_place : place ≡ written = omega (arith, placed, taken) in
      let within : min 65535 (3 + many) ≡ inner = omega (arith, taken, deeper) in
      let turns = t.0.1.1 in
      let marked = turns.1.1.1 in
      record {
        middle = length c1.bytes;
        last = length c2.bytes;
        takes = sound.1.takes;
        first = whole x 0 from (kind_of from) _ _ (omega arith) sound.1.whole t.0.0;
        limit = whole x 1 to (base_of k) _ _ (omega arith) sound.2 t.0.1.0;
        turns = record {
          aligned = length c4.bytes;
          stepped = length c5.bytes;
          turn = length c6.bytes;
          align = turns.0 (length c13.bytes) t.1;
          load = subst (λ (w : ℕ). IsAt x.code (length c4.bytes) (Liw w) (length c5.bytes)) stepped turns.1.0;
          enter = subst (λ (i : Instr). IsAt x.code (length c5.bytes) i (length c6.bytes))
              (ap (λ (p : ℕ). Fri p sign (x.word end)) at_place ∙ ap (λ (s : ℕ). Fri written s (x.word end)) signed ∙ ap (λ (w : ℕ). Fri written (loop_sign (compared_as (base_of k))) w) t.1) turns.1.1.0;
          round = record {
            known = known_row x v k sound.0;
            loaded = length c8.bytes;
            tested = length c9.bytes;
            start = length c10.bytes;
            end = length c11.bytes;
            room = omega (arith, room);
            is_step = sound.3;
            load = subst (λ (p : ℕ). IsAt x.code (length c6.bytes) (Llw p) (length c8.bytes)) at_place marked.1.0;
            test = marked.1.1.0;
            store = subst (λ (at : Access). IsAt x.code (length c9.bytes) (store_code at) (length c10.bytes)) (known_access x v k sound.0) marked.1.1.1.0;
            here = marked.1.1.1.1.0 (3 + many) within sound.4 (omega (arith, room));
            next = subst (λ (i : Instr). IsAt x.code (length c11.bytes) i (length c13.bytes)) (ap (λ (p : ℕ). Frn p (x.word turn)) at_place ∙ ap (λ (w : ℕ). Frn written w) marked.0) marked.1.1.1.1.1;
          };
        };
      })
      (emits_here c0 c12 c13 _ end
      (emits_then c0 c1 c12 _ _ first
      (emits_then c1 c2 c12 _ _ last
      (emits_fresh c2 c3 c12 _ new
      (emits_then c3 c4 c12 _ _ align
      (emits_then c4 c5 c12 _ _ load
      (emits_then c5 c6 c12 _ _ enter
      (emits_mark c6 c7 c12 turn _ mark
      (emits_then c7 c8 c12 _ _ value
      (emits_then c8 c9 c12 _ _ test
      (emits_then c9 c10 c12 _ _ (store_emitted v at c9 c10 lies store)
      (emits_end c10 c11 c12 _ _ here next)))))))))))
      (λ k h. makes.apart k (last.keeps k (first.keeps k h))) put))

-- ---- WITH
pub with_emitted : (n word inner m : ℕ) (exit : Option ℕ) (d : Designator) (body : Statements) (c0 c1 c2 c3 c4 c5 : Draft) → word ≡ framed (loop_place n) → inner ≡ min (n + 1) 65535
    → Adds (place_strings d) c0 c1 (Addressed d m) → Emits c1 c2 (Doing (λ w. Slw word)) → c3 ≡ inside (record { word = word; shape = m }) c2 → Adds (body_strings body) c3 c4 (Body inner exit body) → c5 ≡ outside c4
    → Adds (place_strings d ++ body_strings body) c0 c5 (Stated n exit (Inside d body))
with_emitted n word inner m exit d body c0 c1 c2 c3 c4 c5 placed deeper address keep enter here leave =
    emits_as c0 c5 _ (Stated n exit (Inside d body))
    (λ x t many taken sound room.
    let at_place : word ≡ framed (loop_place many) = omega (arith, placed, taken) in
    let within : min 65535 (suc many) ≡ inner = omega (arith, taken, deeper) in
    let at = t.0 sound.0.place sound.0.there in
    let outcome = option_map x.word exit in
    let right = subst (λ (t : Shape). IsSoundBody (with_held x.layout.scope t) (is_some exit) body) (sym at.shape) sound.1 in
    let stands : BodyAt (holding x.layout (shape_at (shapes_of x.tables.shapes) m) word) x.code (suc many) outcome body (length c2.bytes) (length c5.bytes) = t.1.1 (suc many) within right (omega (arith, room)) in
    record {
      found = at.found;
      start = length c1.bytes;
      kept = length c2.bytes;
      there = sound.0.there;
      shallow = omega (arith, sound.0.shallow);
      room = omega (arith, room);
      here = at.place;
      address = at.address;
      keep = subst (λ (w : ℕ). IsAt x.code (length c1.bytes) (Slw w) (length c2.bytes)) at_place t.1.0;
      within = subst (λ (w : ℕ). BodyAt (holding x.layout (shape_of x.layout.scope d) w) x.code (suc many) outcome body (length c2.bytes) (length c5.bytes)) at_place
          (subst (λ (t : Shape). BodyAt (holding x.layout t word) x.code (suc many) outcome body (length c2.bytes) (length c5.bytes)) at.shape stands);
    })
    (emits_then c0 c1 c5 _ _ address (emits_then c1 c2 c5 _ _ keep (emits_inside (record { word = word; shape = m }) c2 c3 c4 c5 (Body inner exit body) enter here leave)))

-- ---- the code of CASE

label_words : (k : Kind) (label : Label) → is_ordinal k ≡ true → IsSoundLabel k label → HasWords label
label_words k label base sound =
    let ends = label_in k label base sound in
    record { low = in_word (compared_as k) label.low ends.0; high = in_word (compared_as k) label.high ends.1 }

-- ---- one behind another
paired_one : (arms : List RArm) (ls : List ℕ) (a : RArm) (l : ℕ) → length ls ≡ length arms → paired (arms ++ a ∷ []) (ls ++ l ∷ []) ≡ paired arms ls ++ (a, l) ∷ []
paired_one [] [] a l h = refl
paired_one [] (k ∷ ls) a l h = absurd (omega arith)
paired_one (b ∷ arms) [] a l h = absurd (omega arith)
paired_one (b ∷ arms) (k ∷ ls) a l h = let rest : length ls ≡ length arms = omega arith in ap (λ ps. (b, k) ∷ ps) (paired_one arms ls a l rest)

-- the next of a list of labels
pub next_label_emitted : (arm : ℕ) (labels : List RLabel) (i : ℕ) (d : RLabel) (low high : ℕ) (a b c : Draft) → i < length labels
    → (HasWords (label_of (get_or labels i d)) → low ≡ word_of (get_or labels i d).low) → (HasWords (label_of (get_or labels i d)) → high ≡ word_of (get_or labels i d).high)
    → Emits a b (Each (LabelEntry arm) (take i labels)) → Emits b c (Entering low high arm) → Emits a c (Each (LabelEntry arm) (take (i + 1) labels))
next_label_emitted arm labels i d low high a b c inside low_is high_is so_far next =
    each_more (LabelEntry arm) (take i labels) (take (i + 1) labels) (get_or labels i d) a b c (take_more labels i d inside) so_far
    (emits_as b c _ (LabelEntry arm (get_or labels i d))
    (λ x entry words. subst (λ (w : ℕ). EntryAt x.code w (word_of (get_or labels i d).high) (x.word arm) (length b.bytes) (length c.bytes)) (low_is words)
    (subst (λ (w : ℕ). EntryAt x.code low w (x.word arm) (length b.bytes) (length c.bytes)) (high_is words) entry)) next)

-- the next of a list of arms
pub next_arm_emitted : {us vs : List ℕ} (P : RArm × ℕ → Meaning) (arms : List RArm) (ls ks : List ℕ) (i : ℕ) (arm : RArm) (l : ℕ) (a b c : Draft) → i < length arms → arm ≡ get_or arms i arm → length ls ≡ i → ks ≡ ls ++ l ∷ []
    → Adds us a b (Each P (paired (take i arms) ls)) → Adds vs b c (P (arm, l)) → Adds (us ++ vs) a c (Each P (paired (take (i + 1) arms) ks))
next_arm_emitted P arms ls ks i arm l a b c inside is long more so_far next =
    let full : length ls ≡ length (take i arms) = omega (arith, long, length-take-le i arms (omega arith)) in
    each_more P (paired (take i arms) ls) (paired (take (i + 1) arms) ks) (arm, l) a b c
    (ap (λ arms. paired arms ks) (take_next arms i arm inside is) ∙ ap (paired (take i arms ++ arm ∷ [])) more ∙ paired_one (take i arms) ls arm l full) so_far next

entries_one : (arms : List RArm) (a : RArm) → entries (arms ++ a ∷ []) ≡ entries arms + length a.labels
entries_one [] a = omega arith
entries_one (b ∷ arms) a = omega (arith, entries_one arms a)

pub entries_next : (arms : List RArm) (i : ℕ) (a : RArm) → i < length arms → a ≡ get_or arms i a → entries (take (i + 1) arms) ≡ entries (take i arms) + length a.labels
entries_next arms i a inside is = ap entries (take_next arms i a inside is) ∙ entries_one (take i arms) a

pub arm_emitted : (n : ℕ) (exit : Option ℕ) (leave label : ℕ) (ss : Statements) (a b c d : Draft)
    → Emits a b (Marking label) → Adds (body_strings ss) b c (Body n exit ss) → Emits c d (Doing (λ w. Jmp (w leave))) → Adds (body_strings ss) a d (ArmPart n exit leave label ss)
arm_emitted n exit leave label ss a b c d mark body jump =
    adds_as a d _ (append-nil (body_strings ss))
    (emits_as a d _ (ArmPart n exit leave label ss)
    (λ x t. record { end = length c.bytes; named = t.0; here = t.1.0; jump = t.1.1 })
    (emits_mark a b d label _ mark (emits_then b c d _ _ body jump)))

pub trap_marked : (label : ℕ) (a b c : Draft) → Emits a b (Marking label) → Emits b c (Doing (λ w. Trp 7)) → Emits a c (Trapping label)
trap_marked label a b c mark trap = emits_mark a b c label _ mark trap

-- ---- the row
entries_at : (x : Final) (k : Kind) (labels : List RLabel) (arm to t u : ℕ) (rest : ℕ → ℕ → Type 0) (w n : ℕ) → n ≡ length labels + w → is_ordinal k ≡ true → AreSoundLabels k (map label_of labels) → x.word arm ≡ x.layout.target to
    → Each (LabelEntry arm) labels x t u → rest u w → EntriesAt x.code k (map label_of labels) (x.layout.target to) rest t n
entries_at x k [] arm to t u rest w n is base sound named h more = let same : w ≡ n = omega arith in subst (λ (n : ℕ). rest t n) same (subst (λ (t : ℕ). rest t w) (sym h) more)
entries_at x k (r ∷ labels) arm to t u rest w zero is base sound named h more = absurd (omega arith)
entries_at x k (r ∷ labels) arm to t u rest w (suc n) is base sound named h more =
    let at = h.1 (label_words k (label_of r) base sound.0) in
    let fewer : n ≡ length labels + w = omega arith in (
      record { sound = sound.0; low = at.entry.low_at; high = at.entry.high_at; target = at.entry.target_at ∙ ap Some named },
      subst (λ (m : ℕ). EntriesAt x.code k (map label_of labels) (x.layout.target to) rest m n) at.behind (entries_at x k labels arm to h.0 u rest w n fewer base sound.1 named h.2 more),
    )

module _ (x : Final) (n many : ℕ) (taken : min 65535 many ≡ n) (exit : Option ℕ) (leave label out : ℕ) (k : Kind) where
  else_named : (other : Option (List RStmt)) (p q : ℕ) → ElsePart n exit leave label other x p q → x.word label ≡ x.layout.target p
  else_named None p q h = h.0
  else_named (Some ss) p q h = h.named

  else_at : (other : Option (List RStmt)) (p q t : ℕ) → AreSoundArms x.layout.scope (is_some exit) k (else_of other) → loop_place many + arms_words (else_of other) ≤ x.layout.frame → x.word leave ≡ x.layout.target out
      → ElsePart n exit leave label other x p q → ArmsAt x.layout x.code many (option_map x.word exit) k (else_of other) out p q p t 0
  else_at None p q t sound room named h = record { trap = h.1; is = refl; none = refl }
  else_at (Some ss) p q t sound room named h =
      record { end = h.end; here = h.here many taken sound room; leave = subst (λ (w : ℕ). IsAt x.code h.end (Jmp w) q) named h.jump; is = refl; none = refl }

  arms_at : (other : Option (List RStmt)) (arms : List RArm) (ls : List ℕ) (p m q t u : ℕ) → is_ordinal k ≡ true → AreSoundArms x.layout.scope (is_some exit) k (arms_of arms other) → loop_place many + arms_words (arms_of arms other) ≤ x.layout.frame
      → x.word leave ≡ x.layout.target out → length ls ≡ length arms → Each (ArmBody n exit leave) (paired arms ls) x p m → ElsePart n exit leave label other x m q → Each ArmLabels (paired arms ls) x t u
      → ArmsAt x.layout x.code many (option_map x.word exit) k (arms_of arms other) out m q p t (entries arms)
  arms_at other [] ls p m q t u base sound room named long bodies otherwise table =
      subst (λ (p : ℕ). ArmsAt x.layout x.code many (option_map x.word exit) k (else_of other) out m q p t 0) (sym bodies) (else_at other m q t sound room named otherwise)
  arms_at other (a ∷ arms) [] p m q t u base sound room named long bodies otherwise table = absurd (omega arith)
  arms_at other (a ∷ arms) (l ∷ ls) p m q t u base sound room named long bodies otherwise table =
      let is = arm_is a (arms_of arms other) in
      let parts = subst (AreSoundArms x.layout.scope (is_some exit) k) is sound in
      let loops = ap arms_words is in
      let rest : length ls ≡ length arms = omega arith in
      subst (λ (all : Arms). ArmsAt x.layout x.code many (option_map x.word exit) k all out m q p t (entries (a ∷ arms))) (sym is)
      (record {
        end = bodies.1.end;
        gap = bodies.0;
        here = bodies.1.here many taken parts.1 (omega (arith, room, loops));
        leave = subst (λ (w : ℕ). IsAt x.code bodies.1.end (Jmp w) bodies.0) named bodies.1.jump;
        entries = entries_at x k a.labels l p t table.0 (ArmsAt x.layout x.code many (option_map x.word exit) k (arms_of arms other) out m q bodies.0) (entries arms) _ refl base parts.0 bodies.1.named table.1
            (arms_at other arms ls bodies.0 m q table.0 u base parts.2 (omega (arith, room, loops)) named rest bodies.2 otherwise table.2);
      })

labels_long : (x : Final) (k : Kind) (labels : List RLabel) (arm t u : ℕ) → is_ordinal k ≡ true → AreSoundLabels k (map label_of labels) → Each (LabelEntry arm) labels x t u → u ≡ t + 6 * length labels
labels_long x k [] arm t u base sound h = omega arith
labels_long x k (r ∷ labels) arm t u base sound h = omega (arith, (h.1 (label_words k (label_of r) base sound.0)).behind, labels_long x k labels arm h.0 u base sound.1 h.2)

table_long : (x : Final) (k : Kind) (arms : List RArm) (ls : List ℕ) (other : Option (List RStmt)) (looping : Bool) (t u : ℕ) → is_ordinal k ≡ true → AreSoundArms x.layout.scope looping k (arms_of arms other) → length ls ≡ length arms
    → Each ArmLabels (paired arms ls) x t u → u ≡ t + 6 * entries arms
table_long x k [] ls other looping t u base sound long table = omega arith
table_long x k (a ∷ arms) [] other looping t u base sound long table = absurd (omega arith)
table_long x k (a ∷ arms) (l ∷ ls) other looping t u base sound long table =
    let parts = subst (AreSoundArms x.layout.scope looping k) (arm_is a (arms_of arms other)) sound in
    let rest : length ls ≡ length arms = omega arith in
    omega (arith, labels_long x k a.labels l t table.0 base parts.0 table.1, table_long x k arms ls other looping table.0 u base parts.2 rest table.2)

-- the value, a jump to the table, the exit, the arms, what stands behind ELSE, and the table
pub case_emitted : (n : ℕ) (exit : Option ℕ) (value : RExpr) (arms : List RArm) (otherwise : Option (List RStmt)) (labels : List ℕ) (table end leave other : ℕ) (d0 d1 d2 d3 d4 d5 d6 d7 d8 d9 d10 d11 : Draft)
    → Emits d0 d1 Nothing → Makes d0 d1 table → Emits d1 d2 Nothing → Makes d1 d2 end → Adds (expression_strings (expression_of value)) d2 d3 (Value (expression_of value)) → Emits d3 d4 (Doing (λ w. Jmp (w table))) → Emits d4 d5 (Marking leave)
    → Emits d5 d6 (Doing (λ w. Jmp (w end))) → length labels ≡ length arms → Adds (flat_map arm_part arms) d6 d7 (Each (ArmBody n exit leave) (paired arms labels)) → Adds (arms_strings (else_of otherwise)) d7 d8 (ElsePart n exit leave other otherwise)
    → Ends d8 d9 table → Emits d9 d10 (ChoiceOf arms labels other) → Ends d10 d11 end → Adds (body_strings (statement_of (s.Case value arms otherwise))) d0 d11 (Body n exit (statement_of (s.Case value arms otherwise)))
case_emitted n exit value arms otherwise labels table end leave other d0 d1 d2 d3 d4 d5 d6 d7 d8 d9 d10 d11 n1 m1 n2 m2 test go exit_at out long bodies els put_table choice put_end =
    let first = expression_strings (expression_of value) in
    one_emitted n exit _ _ d0 d11 (case_is value arms otherwise)
    (adds_as d0 d11 _ (append-nil (first ++ (flat_map arm_part arms ++ arms_strings (else_of otherwise))) ∙ ap (λ (ws : List ℕ). first ++ ws) (case_strings arms otherwise))
    (emits_as d0 d11 _ _
    (λ x t many taken sound room.
    let k = kind_of (expression_of value) in
    let table_at = t.0.0.1 in
    let go_on = t.0.0.0.1 in
    let marked = go_on.1 in
    let arms_on = marked.1.1 in
    let chosen = t.0.1.0 in
    let whole_table = table_long x k arms labels otherwise (is_some exit) chosen.start _ sound.0 sound.2 long chosen.table in
    record {
      middle = length d3.bytes;
      exit = length d4.bytes;
      start = length d6.bytes;
      choices = length d9.bytes;
      entries = chosen.start;
      count = entries arms;
      other = length d7.bytes;
      base = sound.0;
      value = whole x 0 _ k _ _ (omega arith) sound.1 t.0.0.0.0;
      dispatch = subst (λ (w : ℕ). IsAt x.code (length d3.bytes) (Jmp w) (length d4.bytes)) table_at go_on.0;
      leave = subst (λ (w : ℕ). IsAt x.code (length d4.bytes) (Jmp w) (length d6.bytes)) t.1 marked.1.0;
      bodies = arms_at x n many taken exit leave other (length d4.bytes) k otherwise arms labels (length d6.bytes) (length d7.bytes) (length d9.bytes) chosen.start _ sound.0 sound.2 room marked.0 long arms_on.0 arms_on.1 chosen.table;
      choice = subst (λ (count : ℕ). IsAt x.code (length d9.bytes) (Cas count (x.layout.target (length d7.bytes))) chosen.start) (sym (x.cuts (entries arms) (omega (arith, whole_table, t.0.1.1))))
          (subst (λ (w : ℕ). IsAt x.code (length d9.bytes) (Cas (entries arms % 65536) w) chosen.start) (else_named x n many taken exit leave other (length d4.bytes) k otherwise _ _ arms_on.1) (chosen.choice.at (omega (arith, whole_table, t.0.1.1))));
      whole = whole_table;
    })
    (emits_here d0 d10 d11 _ end
    (emits_then d0 d9 d10 _ _
    (emits_here d0 d8 d9 _ table
    (emits_fresh d0 d1 d8 _ n1 (emits_fresh d1 d2 d8 _ n2
    (emits_then d2 d3 d8 _ _ test (emits_then d3 d4 d8 _ _ go (emits_mark d4 d5 d8 leave _ exit_at (emits_then d5 d6 d8 _ _ out (emits_then d6 d7 d8 _ _ bodies els)))))))
    m1.apart put_table)
    (emits_within d9 d10 _ choice))
    (λ k h. m2.apart k (n1.keeps k h)) put_end)))
