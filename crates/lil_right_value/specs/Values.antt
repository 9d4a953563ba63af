-- Expressions in which no test finds a fault have told values, and so have variables and calls.
use Rattle.std.proofs.Common.{◌≡◌, ℕ, Bool, ◌≤◌, true, false, List, [], ◌∷◌, Option, Some, None, if◌then◌else◌, refl, sym, ap, subst, ◌∙◌, arith, true≢false, ◌⊎◌, inl, inr}
use Rattle.std.specs.Prelude.{pos, negsuc, nat_lt, nat_le, is_none, ◌&&◌}
use Rattle.std.specs.List.{list_any}
use Rattle.std.proofs.lemmas.{Int.ints, Bool.Decides.nat_tests}
use Rattle.lil_base.specs.{Laws.in_range, Words.between, declared.{fault.Place.Place, operator.TwoOp.TwoOp}}
use Rattle.lil_language.specs.declared.tree.{Designator.Designator, Expr.Expr}
use Rattle.lil_types.specs.Types.{char}
use Rattle.lil_report.specs.{Least.now_of, Told.{Row, has_no_fault}}
use Rattle.lil_resolved.specs.{Kinds.Scope, Sound.{is_character, is_text}}
use Rattle.lil_resolved.specs.declared.resolved.RBase.TheVariants as b
use Rattle.lil_scope.specs.{Names.{is_wait_for, waits_for}, declared.env.{Env.Env, Wait.Wait}}
use Rattle.lil_kinds.specs.declared.found.Found.{Found}
use Rattle.lil_shapes.specs.{Bases.base_at, ListLaws.AllFine}
use Rattle.lil_forms.specs.{Properties.Property, Scopes.{Fits, both_left}, Soundness.soundness, StatementSound.StatementSound, Variables.seen}
use Rattle.lil_call.specs.{declared.call.{Argument.Argument, Callee.Callee}, Passing.all_have_values, Calls.{value_of, call_node}}
use Rattle.lil_call.specs.declared.call.Argument.TheVariants as argument
use Rattle.lil_operators.specs.{declared.operations.Chained.Chained, Operations.{Elements, one_node, begun, two_node, chain_found, joined_one, joined_range, set_node}}
use Rattle.lil_check_value.specs.{Tree.{Lifts, Truths, Nodes, means_true, variable_true, call_true}, Values.{first_of, whole_node, code_node, text_node, begun_at, means, as_constant, asked_means, variable_means, call_means}, Designators.{root_means, field_node, other_index, index_node, value_node, callee_node, typed_node}, declared.designators.Reached.Reached}
use Rattle.lil_check_value.specs.declared.designators.Reached.TheVariants as reached
use Rattle.lil_right_call.specs.{Calls.{call_node_right, statement_node_right}, Told.{ArgumentOr, ArgumentTold, argument_or, arguments_or, CalleeTold}}
use Rattle.lil_right_type.specs.{Found.{reach, IsPlaced, IsFound, EnvTold}, Right.{Clear, Right, IsThere, IsThereOr, there_or, given_or, node_or, clear_none, clear_left, clear_right, after_right, is_so}, Typed.is_character_number, Types.own_base}
use Rattle.lil_right_value.specs.{Operators.{ChainTold, one_node_right, begun_right, two_node_right, chain_right}, Reach.{ReachedTold, root_right, field_right, index_right, follow_right, value_right, variable_right, called_right, typed_right}, Sets.{IsSort, AreElements, no_elements_told, joined_one_told, joined_range_told, set_node_right, set_sort_right}}

-- a phrase is right where its value is, if no test finds a fault
abbrev Clearly : (A : Type 0) → (A → Type 0) → A × List Row → Type 0
Clearly A P m = Right P m

lifts : Lifts Clearly
lifts = record { pure = λ A P a h clear. h; then = λ A B P Q m k h g. after_right P Q m k h g }

a_word : (n : ℕ) → nat_lt 65535 n ≡ false → between (negsuc 32767) (pos n) (pos 65535) ≡ true
a_word n h = let few : n ≤ 65535 = grind (arith, nat_tests, h) in in_range (negsuc 32767) (pos n) (pos 65535) (omega (arith, ints)) (omega (arith, ints))

a_byte : (n : ℕ) → nat_lt 255 n ≡ false → n ≤ 255
a_byte n h = grind (arith, nat_tests, h)

first_byte : (text : List ℕ) → is_text text ≡ true → first_of text ≤ 255
first_byte [] h = omega arith
first_byte (c ∷ cs) h = at c (both_left (is_character c) (is_text cs) h)
  where
    at : (c : ℕ) → nat_le c 255 ≡ true → c ≤ 255
    at c h = grind (arith, nat_tests, h)

-- ---- expressions, where W is so if a pointer waits for its target
module _ (e : Env) (P : Property e.types (seen e) e.withs (reach e)) (told : EnvTold e) (W : Type 0) (waits : (n : ℕ) → waits_for e n ≡ true → W) where
  abbrev FoundOr : Option Found → Type 0
  FoundOr = IsThereOr W (IsFound P)

  abbrev ReachedOr : Option Reached → Type 0
  ReachedOr = IsThereOr W (ReachedTold e P told)

  abbrev ChainedOr : Option Chained → Type 0
  ChainedOr = IsThereOr W (ChainTold P told.types)

  abbrev CalleeOr : Option Callee → Type 0
  CalleeOr = IsThereOr W (CalleeTold P)

  abbrev ElementsOr : Option ℕ → Option Elements → Type 0
  ElementsOr s = IsThereOr W (λ es. AreElements P s (Some es))

  abbrev truths : Truths
  truths = record { value = FoundOr; argument = ArgumentOr P W; reached = ReachedOr; chained = ChainedOr; sort = IsSort e.types; elements = ElementsOr; callee = CalleeOr }

  joined_one_or : (s : Option ℕ) (es : Option Elements) (a : Option Found) → IsSort e.types s → ElementsOr s es → FoundOr a → ElementsOr s (joined_one e.types s es a)
  joined_one_or s None a h j i = j
  joined_one_or s (Some es) None h j i = i
  joined_one_or s (Some es) (Some a) h j i = joined_one_told P told.types s (Some es) (Some a) h j i

  joined_range_or : (s : Option ℕ) (es : Option Elements) (a c : Option Found) → IsSort e.types s → ElementsOr s es → FoundOr a → FoundOr c → ElementsOr s (joined_range e.types s es a c)
  joined_range_or s None a c h j i l = j
  joined_range_or s (Some es) None c h j i l = i
  joined_range_or s (Some es) (Some a) None h j i l = l
  joined_range_or s (Some es) (Some a) (Some c) h j i l = joined_range_told P told.types s (Some es) (Some a) (Some c) h j i l

  set_or : (p : Place) (s : Option ℕ) (es : Option Elements) → IsSort e.types s → ElementsOr s es → Right FoundOr (set_node e.types p s es)
  set_or p None es h j clear = absurd h
  set_or p (Some s) None h j clear = j
  set_or p (Some s) (Some es) h j clear = there_or W (IsFound P) (set_node e.types p (Some s) (Some es)).0 (set_node_right P told.types p (Some s) (Some es) h j clear)

  two_or : (p : Place) (op : TwoOp) (at : Place) (a : Option Chained) (c : Option Found) → ChainedOr a → FoundOr c → Right ChainedOr (two_node e.types p op at a c)
  two_or p op at None c h j clear = h
  two_or p op at (Some a) None h j clear = j
  two_or p op at (Some a) (Some c) h j clear = there_or W (ChainTold P told.types) (two_node e.types p op at (Some a) (Some c)).0 (two_node_right P told.types p op at (Some a) (Some c) h j clear)

  index_or : (bracket : Place) (o : Option Reached) (i : Option Found) → ReachedOr o → FoundOr i → Right ReachedOr (index_node e.types bracket o i)
  unfolding other_index
  index_or bracket None i h j clear = h
  index_or bracket (Some (reached.Part a)) None h j clear = j
  index_or bracket (Some (reached.Other o)) None h j clear = j
  index_or bracket (Some (reached.Part a)) (Some i) h j clear = there_or W (ReachedTold e P told) (index_node e.types bracket (Some (reached.Part a)) (Some i)).0 (index_right e P told bracket (Some (reached.Part a)) (Some i) h j clear)
  index_or bracket (Some (reached.Other o)) (Some i) h j clear = there_or W (ReachedTold e P told) (index_node e.types bracket (Some (reached.Other o)) (Some i)).0 (index_right e P told bracket (Some (reached.Other o)) (Some i) h j clear)

  typed_or : (p : Place) (o : Option Reached) → ReachedOr o → Right (ArgumentOr P W) (typed_node p o)
  typed_or p None h clear = h
  typed_or p (Some r) h clear = argument_or P W (typed_node p (Some r)).0 (typed_right e P told p (Some r) h clear)

  given_or_not : (a : Option Found) → FoundOr a → ArgumentOr P W (argument.Value a)
  given_or_not None h = h
  given_or_not (Some a) h = h

  call_or : (p : Place) (c : Option Callee) (xs : List Argument) → CalleeOr c → AllFine (ArgumentOr P W) xs → Right FoundOr (call_node e.types p c xs)
  unfolding call_node
  call_or p None xs h all clear = h
  call_or p (Some c) xs h all clear = by (arguments_or P W xs all)
    where
      by : AllFine (ArgumentTold P) xs ⊎ (W × (all_have_values xs ≡ false)) → FoundOr (call_node e.types p (Some c) xs).0
      by (inl fine) = there_or W (IsFound P) (call_node e.types p (Some c) xs).0 (call_node_right P told.types told.words p (Some c) xs h fine clear)
      by (inr none) = subst (λ all. FoundOr (if all then value_of e.types p c xs else (None, [])).0) (sym none.1) none.0

  begun_at_right : (p : Place) (a : Option Found) → FoundOr a → FoundOr (begun_at p a)
  begun_at_right p None h = h
  begun_at_right p (Some a) h = record { kind = h.kind; form = h.form; place = h.place; some = h.some; few = h.few }

  nodes : Nodes Clearly e truths
  unfolding whole_node code_node text_node
  nodes = record {
    whole = λ p n clear. record { kind = a_word n clear.0; form = tt; place = tt; some = omega arith; few = omega arith };
    code = λ p c clear. record { kind = (b.Character, ap (base_at e.types) (own_base e.types told.types char refl), refl, is_character_number c (a_byte c clear.0)); form = tt; place = tt; some = omega arith; few = omega arith };
    chars = λ p text clear. let so = is_so (is_text text) clear.0 in record { kind = first_byte text so; form = (refl, so); place = tt; some = omega arith; few = omega arith };
    set_sort = set_sort_right e told;
    no_elements = no_elements_told P;
    joined_one = joined_one_or;
    joined_range = joined_range_or;
    set = set_or;
    one = λ p op at. node_or W (IsFound P) (IsFound P) (one_node e.types p op at) refl (one_node_right P told.types p op at);
    begun = given_or W (IsFound P) (ChainTold P told.types) begun refl (begun_right P told.types);
    two = two_or;
    chain = λ p. given_or W (ChainTold P told.types) (IsFound P) (chain_found p) refl (chain_right P told.types p);
    root = λ p i clear. there_or W (ReachedTold e P told) (root_means e p i).0 (root_right e P told p i clear);
    field = λ dot i. node_or W (ReachedTold e P told) (ReachedTold e P told) (field_node e dot i) refl (field_right e P told dot i);
    index = index_or;
    follow = follow_right e P told W waits;
    used = node_or W (ReachedTold e P told) (IsFound P) (value_node e.texts) refl (value_right e P told);
    typed = typed_or;
    given = given_or_not;
    called = node_or W (ReachedTold e P told) (CalleeTold P) (callee_node e) refl (called_right e P told);
    call = call_or;
    begun_at = begun_at_right;
  }

  means_or : (x : Expr) → Right FoundOr (means e x)
  means_or = means_true Clearly lifts e truths nodes

-- ---- what must be constant
there_asked : {A : Type 0} (P : A → Type 0) (o : Option A) (c : Bool) → (is_none o && c) ≡ false → c ≡ true → IsThereOr (Unit {0}) P o → IsThere P o
there_asked P None c none so h = absurd (true≢false (sym so ∙ none))
there_asked P (Some a) c none so h = h

pub asked_right : (e : Env) (P : Property e.types (seen e) e.withs (reach e)) → EnvTold e → (x : Expr) → Right (IsThere (IsFound P)) (asked_means e x)
unfolding as_constant
asked_right e P told x clear =
    let own : Clear (means e x).1 = clear_left (means e x).1 _ clear in
    there_asked (IsFound P) (means e x).0 (has_no_fault (means e x).1) (clear_right (means e x).1 _ clear).0 (ap (λ o. is_none (now_of o)) (clear_none (means e x).1 own)) (means_or e P told (Unit {0}) (λ n is. tt) x own)

-- ---- where no pointer waits
none_waits : (ws : List Wait) → ws ≡ [] → (n : ℕ) → list_any (is_wait_for n) ws ≡ true → ⊥
none_waits ws settled n h = true≢false (sym h ∙ ap (list_any (is_wait_for n)) settled)

module _ (e : Env) (P : Property e.types (seen e) e.withs (reach e)) (told : EnvTold e) (settled : e.waits ≡ []) where
  pub means_right : (x : Expr) → Right (IsThere (IsFound P)) (means e x)
  means_right = means_or e P told ⊥ (none_waits e.waits settled)

  pub variable_means_right : (d : Designator) → Right (IsThere (λ a. IsFound P a × IsPlaced a.kind a.form)) (variable_means e d)
  variable_means_right = variable_true Clearly lifts e (truths e P told ⊥ (none_waits e.waits settled)) (nodes e P told ⊥ (none_waits e.waits settled)) (IsThere (λ a. IsFound P a × IsPlaced a.kind a.form)) (variable_right e P told)

pub call_means_right : (e : Env) {ts : Scope} (fits : Fits e.types (seen e) e.withs (reach e) ts) → EnvTold e → e.waits ≡ [] → (looping : Bool) (d : Designator) (xs : List Expr) → Right (IsThere (StatementSound ts looping)) (call_means e d xs)
call_means_right e {ts} fits told settled looping =
    call_true Clearly lifts e (truths e (soundness fits) told ⊥ (none_waits e.waits settled)) (nodes e (soundness fits) told ⊥ (none_waits e.waits settled)) (IsThere (StatementSound ts looping)) (statement_node_right fits told.types told.words looping)
