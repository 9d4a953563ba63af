-- What each form of expression, selector, designator, operation and element means, from what its parts mean.
use Rattle.std.proofs.Common.{◌≡◌, ◌∷◌, ◌++◌, ℕ, Bool, false, List, [], Option, Some, None, Result, Ok, IfOk, subst, take, get_or, ◌+◌, ◌<◌, ◌≤◌, ap, ◌∙◌, ◌≢◌, length, true, map, refl, sym}
use Rattle.std.specs.Prelude.{◌&&◌, is_none}
use Rattle.std.proofs.lemmas.Result.{IfOk-at_ok}
use Rattle.std.proofs.lemmas.List.{take_all}
use Rattle.lil_base.specs.declared.{fault.{Place.Place, FaultKind.TheVariants.NotConst}, operator.OneOp.OneOp}
use Rattle.lil_text.specs.declared.tree.{Ident.Ident, Qualident.Qualident}
use Rattle.lil_language.specs.declared.tree.{Expr.{Expr, out-Expr, TheOpen.{Expr-F, Selector-F, Range-F}}, Selector.Selector, Designator.{Designator, out-Designator}, Operation.{Operation, out-Operation}, Range.{Range, out-Range, roll-Range}}
use Rattle.lil_language.specs.declared.tree.Expr.{TheFolds.{map-Expr, map-Selector, fold-roll-Expr, fold-roll-Selector, fold_out-Designator, fold_out-Operation, map-Range, fold-roll-Range}, TheViews.{roll-Expr, roll-Selector, roll-out-Expr, roll-out-Range}}
use Rattle.lil_language.specs.declared.tree.Expr.TheVariants as v
use Rattle.lil_language.specs.declared.tree.Selector.TheVariants as w
use Rattle.lil_resolved.specs.declared.resolved.RStmt.{RStmt}
use Rattle.lil_report.specs.{declared.report.Fault.Fault, Least.now_of, Told.{Row, row, rows_of, has_no_fault, noted, tell, Said, walk, after}, Laws.{tell_append, said_as, said_to, said_after, said_map, said_more, walk_map}, Faults.apart_told}
use Rattle.lil_scope.specs.declared.env.Env.{Env}
use Rattle.lil_kinds.specs.declared.found.Found.{Found}
use Rattle.lil_call.specs.{declared.call.{Callee.Callee, Argument.Argument}, Calls.{call_node, statement_node}}
use Rattle.lil_call.specs.declared.call.Argument.TheVariants as argument
use Rattle.lil_check_value.specs.{declared.{designators.Reached.Reached, asked.Asked.Asked}, Designators.{root_means, field_node, index_node, follow_node, value_node, variable_node, callee_node, typed_node}, Looks.set_sort}
use Rattle.lil_check_value.specs.Values.{step, joins, means, as_constant, typed_means, variable_means, call_means, reach_means, index_means, step_means, operation_means, joins_mean, elements_mean, argument_in, argument_means, arguments_mean, begins, whole_node, code_node, text_node, asks, asks_at, begun_at, Sense, Way, Step, Operates, Joins, expression_layer, selector_layer, designator_layer, operation_layer, range_layer, sense, way, operates, as_argument}
use Rattle.lil_operators.specs.{declared.{operations.Chained.Chained, sets.Gathered.Gathered}, Operations.{Elements, one_node, begun, two_node, chain_found, set_node, joined_one, joined_range, no_elements, all_gathered, gathered_one, gathered_range, gathered_set}, Gathering.{Gathers, gathers, one_gathered, range_gathered, is_gathered}}
use Rattle.lil_language.specs.declared.tree.Expr.TheOpen as o
use Rattle.lil_check_value.specs.Values as s

abbrev pub is_name : Expr-F Expr Selector Designator Operation Range → Bool
is_name (o.Whole p n) = false
is_name (o.Code p c) = false
is_name (o.Chars p text) = false
is_name (o.SetOf p q xs) = false
is_name (o.Desig p d) = true
is_name (o.Call p d xs) = false
is_name (o.One p op at x) = false
is_name (o.Chain p x xs) = false

module _ (e : Env) where
  rolled : (x : Expr-F Expr Selector Designator Operation Range) → sense e (roll-Expr x) ≡ expression_layer e (map-Expr Expr Selector Designator Operation Range Sense Step Way Operates Joins (sense e) (step e) (way e) (operates e) (joins e) x)
  unfolding sense step way operates joins
  rolled = fold-roll-Expr Sense Step Way Operates Joins (expression_layer e) (selector_layer e) (designator_layer e) (operation_layer e) (range_layer e)

  step_rolled : (x : Selector-F Expr Selector Designator Operation Range) → step e (roll-Selector x) ≡ selector_layer e (map-Selector Expr Selector Designator Operation Range Sense Step Way Operates Joins (sense e) (step e) (way e) (operates e) (joins e) x)
  unfolding sense step way operates joins
  step_rolled = fold-roll-Selector Sense Step Way Operates Joins (expression_layer e) (selector_layer e) (designator_layer e) (operation_layer e) (range_layer e)

  -- ---- selectors
  pub field_is : (dot : Place) (i : Ident) (a : Option Reached) → step e (w.Field dot i) a ≡ field_node e dot i a
  field_is dot i a = ap (λ x. step e x a) (sym (w.rolls-Field dot i)) ∙ ap (λ m. m a) (step_rolled (o.Field dot i))

  pub index_is : (bracket : Place) (xs : List Expr) (a : Option Reached) → step e (w.Index bracket xs) a ≡ walk (index_means e bracket) a xs
  unfolding means
  index_is bracket xs a = ap (λ x. step e x a) (sym (w.rolls-Index bracket xs)) ∙ (ap (λ m. m a) (step_rolled (o.Index bracket xs)) ∙ walk_map (s.index_step e bracket) (sense e) a xs)

  pub follow_is : (arrow : Place) (a : Option Reached) → step e (w.Follow arrow) a ≡ follow_node e arrow a
  follow_is arrow a = ap (λ x. step e x a) (sym (w.rolls-Follow arrow)) ∙ ap (λ m. m a) (step_rolled (o.Follow arrow))

  -- ---- designators
  way_is : (d : Designator) → way e d ≡ designator_layer e (record { first = (out-Designator d).first; selectors = map (step e) (out-Designator d).selectors })
  unfolding sense step way operates joins
  way_is d = fold_out-Designator Sense Step Way Operates Joins (expression_layer e) (selector_layer e) (designator_layer e) (operation_layer e) (range_layer e) d

  pub first_is : (d : Designator) → (way e d).first ≡ begins d
  first_is d = ap (λ a. a.first) (way_is d)

  pub reach_is : (p : Place) (d : Designator) → reach_means e p d ≡ after (root_means e p (out-Designator d).first) (λ a. walk (step_means e) a (out-Designator d).selectors)
  unfolding reach_means
  reach_is p d = ap (λ a. a.reach p) (way_is d) ∙ (λ j. after (root_means e p (out-Designator d).first) (λ a. walk_map (λ a x. x a) (step e) a (out-Designator d).selectors j))

  -- ---- operations and elements
  pub operation_is : (p : Place) (a : Option Chained) (x : Operation) → operation_means e p a x ≡ after (means e (out-Operation x).operand) (two_node e.types p (out-Operation x).operator (out-Operation x).place a)
  unfolding sense step way operates joins means
  operation_is p a x = ap (λ m. m p a) (fold_out-Operation Sense Step Way Operates Joins (expression_layer e) (selector_layer e) (designator_layer e) (operation_layer e) (range_layer e) x)

  range_rolled : (x : Range-F Expr Selector Designator Operation Range) → joins e (roll-Range x) ≡ range_layer e (map-Range Expr Selector Designator Operation Range Sense Step Way Operates Joins (sense e) (step e) (way e) (operates e) (joins e) x)
  unfolding sense step way operates joins
  range_rolled = fold-roll-Range Sense Step Way Operates Joins (expression_layer e) (selector_layer e) (designator_layer e) (operation_layer e) (range_layer e)

  opened : (x : Range) (h : Option Expr) → (out-Range x).high ≡ h → joins e x ≡ joins e (roll-Range (record { low = (out-Range x).low; high = h }))
  opened x h is = ap (joins e) (sym (roll-out-Range x)) ∙ (λ j. joins e (roll-Range (record { low = (out-Range x).low; high = is j })))

  pub alone_is : (x : Range) (n : Option ℕ) (all : Option Elements) → (out-Range x).high ≡ None → joins e x n all ≡ after (means e (out-Range x).low) (λ a. (joined_one e.types n all a, []))
  unfolding means
  alone_is x n all is = ap (λ m. m n all) (opened x None is ∙ range_rolled (record { low = (out-Range x).low; high = None }))

  pub range_is : (x : Range) (high : Expr) (n : Option ℕ) (all : Option Elements) → (out-Range x).high ≡ Some high → joins e x n all ≡ after (means e (out-Range x).low) (λ a. after (means e high) (λ b. (joined_range e.types n all a b, [])))
  unfolding means
  range_is x high n all is = ap (λ m. m n all) (opened x (Some high) is ∙ range_rolled (record { low = (out-Range x).low; high = Some high }))

  -- ---- expressions
  pub whole_is : (p : Place) (n : ℕ) → means e (v.Whole p n) ≡ whole_node p n
  unfolding means
  whole_is p n = ap (λ x. (sense e x).value) (sym (v.rolls-Whole p n)) ∙ ap (λ m. m.value) (rolled (o.Whole p n))

  pub code_is : (p : Place) (c : ℕ) → means e (v.Code p c) ≡ code_node p c
  unfolding means
  code_is p c = ap (λ x. (sense e x).value) (sym (v.rolls-Code p c)) ∙ ap (λ m. m.value) (rolled (o.Code p c))

  pub chars_is : (p : Place) (text : List ℕ) → means e (v.Chars p text) ≡ text_node p text
  unfolding means
  chars_is p text = ap (λ x. (sense e x).value) (sym (v.rolls-Chars p text)) ∙ ap (λ m. m.value) (rolled (o.Chars p text))

  pub set_is : (p : Place) (q : Option Qualident) (xs : List Range) → means e (v.SetOf p q xs) ≡ after (set_sort e q) (λ t. after (elements_mean e t xs) (set_node e.types p t))
  unfolding means
  set_is p q xs = ap (λ x. (sense e x).value) (sym (v.rolls-SetOf p q xs)) ∙ (ap (λ m. m.value) (rolled (o.SetOf p q xs))
      ∙ (λ j. after (set_sort e q) (λ t. after (walk_map (λ es j. j t es) (joins e) (Some no_elements) xs j) (set_node e.types p t))))

  pub desig_is : (p : Place) (d : Designator) → means e (v.Desig p d) ≡ after (reach_means e p d) (value_node e.texts)
  unfolding means reach_means
  desig_is p d = ap (λ x. (sense e x).value) (sym (v.rolls-Desig p d)) ∙ ap (λ m. m.value) (rolled (o.Desig p d))

  pub one_is : (p : Place) (op : OneOp) (at : Place) (x : Expr) → means e (v.One p op at x) ≡ after (means e x) (one_node e.types p op at)
  unfolding means
  one_is p op at x = ap (λ x. (sense e x).value) (sym (v.rolls-One p op at x)) ∙ ap (λ m. m.value) (rolled (o.One p op at x))

  pub chain_is : (p : Place) (x : Expr) (xs : List Operation) → means e (v.Chain p x xs) ≡ after (after (means e x) (λ a. walk (operation_means e p) (begun a) xs)) (λ a. (chain_found p a, []))
  unfolding means
  chain_is p x xs = ap (λ x. (sense e x).value) (sym (v.rolls-Chain p x xs)) ∙ (ap (λ m. m.value) (rolled (o.Chain p x xs))
      ∙ (λ j. after (after (means e x) (λ a. walk_map (λ s o. o p s) (operates e) (begun a) xs j)) (λ a. (chain_found p a, []))))

  -- ---- arguments
  by_sense : (b : Bool) (x : Expr) → s.argument_by b (sense e x) ≡ argument_in e b x
  unfolding means typed_means
  by_sense true x = refl
  by_sense false x = refl

  given_is : (a : Asked) (xs : List Expr) → s.given a (map (sense e) xs) ≡ arguments_mean e a xs
  given_is a xs = walk_map (s.argument_step a) (sense e) [] xs ∙ (λ j. walk (λ out x. after (by_sense (asks_at a (length out)) x j) (λ one. (out ++ one ∷ [], []))) [] xs)

  pub call_is : (p : Place) (d : Designator) (xs : List Expr) → means e (v.Call p d xs)
      ≡ after (after (reach_means e (begins d) d) (callee_node e)) (λ c. after (after (arguments_mean e (asks c) xs) (call_node e.types (begins d) c)) (λ a. (begun_at p a, [])))
  unfolding means reach_means
  call_is p d xs = ap (λ x. (sense e x).value) (sym (v.rolls-Call p d xs)) ∙ (ap (λ m. m.value) (rolled (o.Call p d xs))
      ∙ (λ j. after (after ((way e d).reach (first_is d j)) (callee_node e)) (λ c. after (after (given_is (asks c) xs j) (call_node e.types (first_is d j) c)) (λ a. (begun_at p a, [])))))

  pub typed_desig : (p : Place) (d : Designator) → typed_means e (v.Desig p d) ≡ after (reach_means e p d) (typed_node p)
  unfolding typed_means reach_means
  typed_desig p d = ap (λ x. (sense e x).typed) (sym (v.rolls-Desig p d)) ∙ ap (λ m. m.typed) (rolled (o.Desig p d))

  typed_other : (x : Expr-F Expr Selector Designator Operation Range) → is_name x ≡ false → typed_means e (roll-Expr x) ≡ as_argument (means e (roll-Expr x))
  unfolding typed_means means
  typed_other (o.Whole p n) h = ap (λ m. m.typed) (rolled (o.Whole p n)) ∙ ap (λ m. as_argument m.value) (sym (rolled (o.Whole p n)))
  typed_other (o.Code p c) h = ap (λ m. m.typed) (rolled (o.Code p c)) ∙ ap (λ m. as_argument m.value) (sym (rolled (o.Code p c)))
  typed_other (o.Chars p text) h = ap (λ m. m.typed) (rolled (o.Chars p text)) ∙ ap (λ m. as_argument m.value) (sym (rolled (o.Chars p text)))
  typed_other (o.SetOf p q xs) h = ap (λ m. m.typed) (rolled (o.SetOf p q xs)) ∙ ap (λ m. as_argument m.value) (sym (rolled (o.SetOf p q xs)))
  typed_other (o.Desig p d) h = absurd (cc)
  typed_other (o.Call p d xs) h = ap (λ m. m.typed) (rolled (o.Call p d xs)) ∙ ap (λ m. as_argument m.value) (sym (rolled (o.Call p d xs)))
  typed_other (o.One p op at x) h = ap (λ m. m.typed) (rolled (o.One p op at x)) ∙ ap (λ m. as_argument m.value) (sym (rolled (o.One p op at x)))
  typed_other (o.Chain p x xs) h = ap (λ m. m.typed) (rolled (o.Chain p x xs)) ∙ ap (λ m. as_argument m.value) (sym (rolled (o.Chain p x xs)))

  typed_rolled : (x : Expr-F Expr Selector Designator Operation Range) → ((p : Place) (d : Designator) → roll-Expr x ≢ v.Desig p d) → is_name x ≡ false
  typed_rolled (o.Whole p n) other = refl
  typed_rolled (o.Code p c) other = refl
  typed_rolled (o.Chars p text) other = refl
  typed_rolled (o.SetOf p q xs) other = refl
  typed_rolled (o.Desig p d) other = absurd (other p d (v.rolls-Desig p d))
  typed_rolled (o.Call p d xs) other = refl
  typed_rolled (o.One p op at x) other = refl
  typed_rolled (o.Chain p x xs) other = refl

  pub typed_default : (x : Expr) → ((p : Place) (d : Designator) → x ≢ v.Desig p d) → typed_means e x ≡ as_argument (means e x)
  typed_default x other = subst (λ z. typed_means e z ≡ as_argument (means e z)) (roll-out-Expr x) (typed_other (out-Expr x) (typed_rolled (out-Expr x) (λ p d h. other p d (sym (roll-out-Expr x) ∙ h))))

-- ---- what calls say of the forms, from what they say of the parts

module _ (e : Env) {r : Option Fault} where
  -- ---- selectors and designators
  module _ {of : Selector} (a : Option Reached) {b : Option Reached} {s : Option Fault} where
    pub is_field : {dot : Place} {i : Ident} → of ≡ w.Field dot i → Said (field_node e dot i a) r b s → Said (step e of a) r b s
    is_field {dot = dot} {i = i} is h = said_as (ap (λ x. step e x a) is ∙ field_is e dot i a) h

    pub is_index : (xs : List Expr) {bracket : Place} → of ≡ w.Index bracket xs → Said (walk (index_means e bracket) a xs) r b s → Said (step e of a) r b s
    is_index xs {bracket = bracket} is h = said_as (ap (λ x. step e x a) is ∙ index_is e bracket xs a) h

    pub is_follow : {arrow : Place} → of ≡ w.Follow arrow → Said (follow_node e arrow a) r b s → Said (step e of a) r b s
    is_follow {arrow = arrow} is h = said_as (ap (λ x. step e x a) is ∙ follow_is e arrow a) h

  pub is_reached : (p : Place) (d : Designator) (ss : List Selector) {a b : Option Reached} {s t : Option Fault} → ss ≡ (out-Designator d).selectors → Said (root_means e p (out-Designator d).first) r a s
      → Said (walk (step_means e) a ss) s b t → Said (reach_means e p d) r b t
  is_reached p d ss {a = a} {b = b} {s = s} {t = t} is h g = said_as (reach_is e p d) (said_after _ _ h (subst (λ ss. Said (walk (step_means e) a ss) s b t) is g))

  -- ---- items of lists
  pub is_indexed : {E : Type 0} (bracket : Place) (x : Expr) (a : Option Reached) {kept b : Option Reached} {found : Result (Option Found) E} {i : Option Found} {s t : Option Fault} → (kept ≡ a) × (found ≡ Ok i)
      → IfOk found (λ i. Said (means e x) r i s) → Said (index_node e.types bracket kept i) s b t → Said (index_means e bracket a x) r b t
  is_indexed bracket x a {b = b} {i = i} {s = s} {t = t} held h g = said_after _ _ (IfOk-at_ok (λ i. Said (means e x) r i s) held.1 h) (subst (λ a. Said (index_node e.types bracket a i) s b t) held.0 g)

  pub is_operated : {E : Type 0} (p : Place) (x : Operation) (a : Option Chained) {kept b : Option Chained} {found : Result (Option Found) E} {i : Option Found} {s t : Option Fault} → (kept ≡ a) × (found ≡ Ok i)
      → IfOk found (λ i. Said (means e (out-Operation x).operand) r i s) → Said (two_node e.types p (out-Operation x).operator (out-Operation x).place kept i) s b t → Said (operation_means e p a x) r b t
  is_operated p x a {b = b} {i = i} {s = s} {t = t} held h g = said_as (operation_is e p a x) (said_after _ _ (IfOk-at_ok (λ i. Said (means e (out-Operation x).operand) r i s) held.1 h)
      (subst (λ a. Said (two_node e.types p (out-Operation x).operator (out-Operation x).place a i) s b t) held.0 g))

  pub is_alone : {E : Type 0} (x : Range) (n : Option ℕ) (es : Option Elements) {g kept more : Option Gathered} {found : Result (Option Found) E} {a : Option Found} {s : Option Fault} → g ≡ all_gathered e.types n es → (out-Range x).high ≡ None → (kept ≡ g) × (found ≡ Ok a)
      → IfOk found (λ a. Said (means e (out-Range x).low) r a s) → more ≡ gathered_one e.types n kept a → Gathers e.types n (joins e x n es) r more s
  is_alone x n es {a = a} {s = s} known is held h m = gathers e.types n
      (said_as (alone_is e x n es is) (said_map (joined_one e.types n es) (IfOk-at_ok (λ a. Said (means e (out-Range x).low) r a s) held.1 h)))
      (m ∙ (ap (λ g. gathered_one e.types n g a) (held.0 ∙ known) ∙ sym (one_gathered e.types n es a)))

  pub is_range : {E : Type 0} (x : Range) (high : Expr) (n : Option ℕ) (es : Option Elements) (s : Option Fault) {g kept more : Option Gathered} {both : Option Gathered × Option Found} {low_found high_found : Result (Option Found) E} {a b : Option Found} {t : Option Fault}
      → g ≡ all_gathered e.types n es → (out-Range x).high ≡ Some high → (kept ≡ g) × (low_found ≡ Ok a) → IfOk low_found (λ a. Said (means e (out-Range x).low) r a s) → (both ≡ (kept, a)) × (high_found ≡ Ok b)
      → IfOk high_found (λ b. Said (means e high) s b t) → more ≡ gathered_range e.types n both.0 both.1 b → Gathers e.types n (joins e x n es) r more t
  is_range x high n es s {a = a} {b = b} {t = t} known is held h held' l m = gathers e.types n
      (said_as (range_is e x high n es is) (said_after _ _ (IfOk-at_ok (λ a. Said (means e (out-Range x).low) r a s) held.1 h)
      (said_map (joined_range e.types n es a) (IfOk-at_ok (λ b. Said (means e high) s b t) held'.1 l))))
      (m ∙ (ap (λ both. gathered_range e.types n both.0 both.1 b) held'.0 ∙ (ap (λ g. gathered_range e.types n g a b) (held.0 ∙ known) ∙ sym (range_gathered e.types n es a b))))

  pub is_gathered_more : (n : Option ℕ) (xs : List Range) (i : ℕ) (x : Range) {t u : Option Fault} {g more : Option Gathered} → i < length xs → x ≡ get_or xs i x → Gathers e.types n (walk (joins_mean e n) (Some no_elements) (take i xs)) r g t
      → ((es : Option Elements) → g ≡ all_gathered e.types n es → Gathers e.types n (joins e x n es) t more u) → Gathers e.types n (walk (joins_mean e n) (Some no_elements) (take (i + 1) xs)) r more u
  is_gathered_more n xs i x lt is all one =
      let next = one (walk (joins_mean e n) (Some no_elements) (take i xs)).0 all.0 in
      gathers e.types n (said_more (joins_mean e n) (Some no_elements) xs i x lt is all.1 next.1) next.0

  pub is_gathered_all : (n : Option ℕ) (xs : List Range) (i : ℕ) {t : Option Fault} {g : Option Gathered} → length xs ≤ i → Gathers e.types n (walk (joins_mean e n) (Some no_elements) (take i xs)) r g t → Gathers e.types n (elements_mean e n xs) r g t
  is_gathered_all n xs i {t = t} {g = g} le = subst (λ xs. Gathers e.types n (walk (joins_mean e n) (Some no_elements) xs) r g t) (take_all i xs le)

  -- ---- arguments
  pub is_typed : {of : Expr} {p : Place} (d : Designator) {a : Option Reached} {b : Argument} {s t : Option Fault} → of ≡ v.Desig p d → Said (reach_means e p d) r a s → Said (typed_node p a) s b t → Said (typed_means e of) r b t
  is_typed {p = p} d is h g = said_as (ap (typed_means e) is ∙ typed_desig e p d) (said_after _ _ h g)

  pub is_valued : {of : Expr} {a : Option Found} {s : Option Fault} → ((p : Place) (d : Designator) → of ≢ v.Desig p d) → Said (means e of) r a s → Said (typed_means e of) r (argument.Value a) s
  is_valued {of = of} other h = said_as (typed_default e of other) (said_map argument.Value h)

  pub is_plain : (x : Expr) {asks' : Bool} {a : Option Found} {s : Option Fault} → asks' ≡ false → Said (means e x) r a s → Said (argument_in e asks' x) r (argument.Value a) s
  is_plain x is h = said_as (ap (λ b. argument_in e b x) is) (said_map argument.Value h)

  pub is_argument : (asked : Asked) (out all : List Argument) (x : Expr) {asks' : Bool} {a : Argument} {s : Option Fault} → asks' ≡ asks_at asked (length out)
      → Said (argument_in e asks' x) r a s → all ≡ out ++ a ∷ [] → Said (argument_means e asked out x) r all s
  is_argument asked out all x {a = a} {s = s} is h more = said_to (said_map (λ one. out ++ one ∷ []) (subst (λ z. Said (argument_in e z x) r a s) is h)) more

  -- ---- expressions
  module _ {of : Expr} where
    pub is_whole : {p : Place} {n : ℕ} {a : Option Found} {s : Option Fault} → of ≡ v.Whole p n → Said (whole_node p n) r a s → Said (means e of) r a s
    is_whole {p = p} {n = n} is h = said_as (ap (means e) is ∙ whole_is e p n) h

    pub is_code : {p : Place} {c : ℕ} {a : Option Found} {s : Option Fault} → of ≡ v.Code p c → Said (code_node p c) r a s → Said (means e of) r a s
    is_code {p = p} {c = c} is h = said_as (ap (means e) is ∙ code_is e p c) h

    pub is_chars : {p : Place} {text : List ℕ} {a : Option Found} {s : Option Fault} → of ≡ v.Chars p text → Said (text_node p text) r a s → Said (means e of) r a s
    is_chars {p = p} {text = text} is h = said_as (ap (means e) is ∙ chars_is e p text) h

    pub is_set : {p : Place} {q : Option Qualident} (xs : List Range) {t : Option ℕ} {g : Option Gathered} {a : Option Found} {s u w' : Option Fault} → of ≡ v.SetOf p q xs
        → Said (set_sort e q) r t s → Gathers e.types t (elements_mean e t xs) s g u → Said (gathered_set e.types p t g) u a w' → Said (means e of) r a w'
    is_set {p = p} {q = q} xs {t = t} {a = a} {u = u} {w' = w'} is h all l = said_as (ap (means e) is ∙ set_is e p q xs) (said_after _ _ h (said_after _ _ all.1
        (is_gathered e.types p t (elements_mean e t xs).0 (subst (λ g. Said (gathered_set e.types p t g) u a w') all.0 l))))

    pub is_desig : {p : Place} (d : Designator) {o : Option Reached} {a : Option Found} {s t : Option Fault} → of ≡ v.Desig p d → Said (reach_means e p d) r o s → Said (value_node e.texts o) s a t → Said (means e of) r a t
    is_desig {p = p} d is h g = said_as (ap (means e) is ∙ desig_is e p d) (said_after _ _ h g)

    pub is_one : {p : Place} {op : OneOp} {at : Place} (x : Expr) {a b : Option Found} {s t : Option Fault} → of ≡ v.One p op at x → Said (means e x) r a s → Said (one_node e.types p op at a) s b t → Said (means e of) r b t
    is_one {p = p} {op = op} {at = at} x is h g = said_as (ap (means e) is ∙ one_is e p op at x) (said_after _ _ h g)

    pub is_chain : {p : Place} (x : Expr) (xs : List Operation) {a : Option Found} {c d : Option Chained} {b : Option Found} {s t : Option Fault} → of ≡ v.Chain p x xs → Said (means e x) r a s → c ≡ begun a
        → Said (walk (operation_means e p) c xs) s d t → b ≡ chain_found p d → Said (means e of) r b t
    is_chain {p = p} x xs {a = a} {d = d} {s = s} {t = t} is h begins' g m = said_as (ap (means e) is ∙ chain_is e p x xs)
        (said_to (said_map (chain_found p) (said_after _ _ h (subst (λ c. Said (walk (operation_means e p) c xs) s d t) begins' g))) m)

    pub is_call : {E : Type 0} {p q : Place} (d : Designator) (xs : List Expr) {o : Option Reached} {c kept : Option Callee} {asked : Asked} {found : Result (List Argument) E} {given : List Argument} {a b : Option Found} {s t u w' : Option Fault}
        → of ≡ v.Call p d xs → q ≡ begins d → Said (reach_means e q d) r o s → Said (callee_node e o) s c t → asked ≡ asks c → (kept ≡ c) × (found ≡ Ok given) → IfOk found (λ given. Said (arguments_mean e asked xs) t given u)
        → Said (call_node e.types q kept given) u a w' → b ≡ begun_at p a → Said (means e of) r b w'
    is_call {p = p} {q = q} d xs {o = o} {c = c} {asked = k'} {given = given} {a = a} {s = s} {t = t} {u = u} {w' = w'} is first h g asked held g' l m = said_as (ap (means e) is ∙ call_is e p d xs)
        (said_after _ _ (said_after _ _ (subst (λ q. Said (reach_means e q d) r o s) first h) g)
        (said_to (said_map (begun_at p) (said_after _ _ (subst (λ z. Said (arguments_mean e z xs) t given u) asked (IfOk-at_ok (λ given. Said (arguments_mean e k' xs) t given u) held.1 g'))
        (subst (λ q. Said (call_node e.types q c given) u a w') first (subst (λ c. Said (call_node e.types q c given) u a w') held.0 l)))) m))

  -- ---- a variable, and a call that is a statement
  pub is_variable : {q : Place} (d : Designator) {o : Option Reached} {a : Option Found} {s t : Option Fault} → q ≡ begins d → Said (reach_means e q d) r o s → Said (variable_node o) s a t → Said (variable_means e d) r a t
  unfolding variable_means
  is_variable d {o = o} {s = s} first h g = said_after _ _ (subst (λ q. Said (reach_means e q d) r o s) first h) g

  pub is_stated : {E : Type 0} {q : Place} (d : Designator) (xs : List Expr) {ys : List Expr} {o : Option Reached} {c kept : Option Callee} {asked : Asked} {found : Result (List Argument) E} {given : List Argument} {a : Option RStmt}
      {s t u w' : Option Fault} → q ≡ begins d → ys ≡ xs → Said (reach_means e q d) r o s → Said (callee_node e o) s c t → asked ≡ asks c → (kept ≡ c) × (found ≡ Ok given) → IfOk found (λ given. Said (arguments_mean e asked ys) t given u)
      → Said (statement_node e.types q kept given) u a w' → Said (call_means e d xs) r a w'
  unfolding call_means
  is_stated {q = q} d xs {ys = ys} {o = o} {c = c} {asked = k'} {given = given} {a = a} {s = s} {t = t} {u = u} {w' = w'} first these h g asked held g' l =
      said_after _ _ (said_after _ _ (subst (λ q. Said (reach_means e q d) r o s) first h) g)
      (said_after _ _ (subst (λ z. Said (arguments_mean e z xs) t given u) asked (subst (λ ys. Said (arguments_mean e k' ys) t given u) these (IfOk-at_ok (λ given. Said (arguments_mean e k' ys) t given u) held.1 g')))
      (subst (λ q. Said (statement_node e.types q c given) u a w') first (subst (λ c. Said (statement_node e.types q c given) u a w') held.0 l)))

-- ---- what must be constant: its own tests are kept apart, and what they found is one test
pub is_asked : {A : Type 0} (p : Place) (m : Option A × List Row) {a : Option A} {o r s t u : Option Fault} {none : Bool} {q : Place} → o ≡ None → Said m o a t → q ≡ p → none ≡ (is_none a && is_none (now_of t))
    → u ≡ noted t (row none q NotConst) → s ≡ tell r (rows_of u) → Said (as_constant p m) r a s
unfolding as_constant tell
is_asked p m {a = a} {r = r} {t = t} {u = u} begun' before first is note all =
    let h : Said m None a t = subst (λ o. Said m o a t) begun' before in
    let rows : List Row = m.1 ++ row (is_none m.0 && has_no_fault m.1) p NotConst ∷ [] in
    let last : noted t (row (is_none m.0 && has_no_fault m.1) p NotConst) ≡ tell None rows = (λ j. noted (h.told j) (row (is_none m.0 && has_no_fault m.1) p NotConst)) ∙ sym (tell_append None m.1 (row (is_none m.0 && has_no_fault m.1) p NotConst ∷ [])) in
    let own : u ≡ tell None rows = note ∙ ((λ j. noted t (row ((is ∙ (λ i. is_none (h.value i) && is_none (now_of (h.told i)))) j) (first j) NotConst)) ∙ last) in
    record { value = h.value; told = all ∙ (ap (λ u. tell r (rows_of u)) own ∙ apart_told r rows) }
