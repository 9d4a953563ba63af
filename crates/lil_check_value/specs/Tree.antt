-- What is true of the nodes of expressions is true of expressions, by induction.
use Rattle.std.proofs.Common.{◌≡◌, ℕ, Bool, true, false, List, [], ◌∷◌, ◌++◌, length, map, Option, None, Some, sym, subst}
use Rattle.lil_base.specs.declared.{fault.Place.Place, operator.{OneOp.OneOp, TwoOp.TwoOp}}
use Rattle.lil_text.specs.declared.tree.{Ident.Ident, Qualident.Qualident}
use Rattle.lil_language.specs.declared.tree.Expr.{Expr, TheOpen.{Expr-F, Selector-F, Designator-F, Operation-F, Range-F}, TheFolds.{map-Expr, map-Selector, map-Designator, map-Operation, map-Range, fold-roll-Expr, fold-roll-Selector, fold-roll-Designator, fold-roll-Operation, fold-roll-Range, ind-Expr, ind-Designator}, TheViews.{roll-Expr, roll-Selector}}
use Rattle.lil_language.specs.declared.tree.{Designator.{Designator, roll-Designator}, Selector.Selector, Operation.{Operation, roll-Operation}, Range.{Range, roll-Range}}
use Rattle.lil_language.specs.declared.tree.Expr.TheOpen as x
use Rattle.lil_report.specs.Told.{Row, after, walk}
use Rattle.lil_resolved.specs.declared.resolved.RStmt.{RStmt}
use Rattle.lil_scope.specs.declared.env.Env.{Env}
use Rattle.lil_kinds.specs.declared.found.Found.{Found}
use Rattle.lil_shapes.specs.ListLaws.{AllFine}
use Rattle.lil_forms.specs.Scopes.{fine_more}
use Rattle.lil_call.specs.{declared.call.{Callee.Callee, Argument.Argument}, Calls.{call_node, statement_node}}
use Rattle.lil_call.specs.declared.call.Argument.TheVariants as argument
use Rattle.lil_operators.specs.{declared.operations.Chained.Chained, Operations.{Elements, Meaning, one_node, begun, two_node, chain_found, no_elements, joined_one, joined_range, set_node}}
use Rattle.lil_check_value.specs.{declared.{designators.Reached.Reached, asked.Asked.Asked}, Designators.{root_means, field_node, index_node, follow_node, value_node, variable_node, callee_node, typed_node}, Looks.set_sort}
use Rattle.lil_check_value.specs.Values.{Sense, Way, Step, Operates, Joins, asks, asks_at, as_argument, argument_by, argument_step, given, begun_at, call_of, called, of_value, chain_means, expression_layer, index_step, selector_layer, designator_layer, operation_layer, range_layer, sense, step, way, operates, joins, means, typed_means, reach_means, begins, argument_in, argument_means, arguments_mean, variable_means, call_means}

-- what is true of phrases, from what is true of their values: of one without tests, and of one after another
pub record Lifts (L : (A : Type 0) → (A → Type 0) → A × List Row → Type 0) : Type 1 where
  pub pure : (A : Type 0) (P : A → Type 0) (a : A) → P a → L A P (a, [])
  pub then : (A B : Type 0) (P : A → Type 0) (Q : B → Type 0) (m : A × List Row) (k : A → B × List Row) → L A P m → ((a : A) → P a → L B Q (k a)) → L B Q (after m k)

module _ {A X : Type 0} (g : A → X) (Q : X → Type 0) where
  -- what is true of parts
  pub all_parts : (ys : List ((a : A) × Q (g a))) → AllFine Q (map g (map (λ y. y.0) ys))
  all_parts [] = tt
  all_parts (y ∷ ys) = (y.1, all_parts ys)

pub all_so : {A : Type 0} (Q : A → Type 0) → ((a : A) → Q a) → (xs : List A) → AllFine Q xs
all_so Q q [] = tt
all_so Q q (x ∷ xs) = (q x, all_so Q q xs)

module _ (L : (A : Type 0) → (A → Type 0) → A × List Row → Type 0) (lifts : Lifts L) (S X : Type 0) (P : S → Type 0) (Q : X → Type 0) (f : S → X → S × List Row) (keeps : (s : S) (x : X) → P s → Q x → L S P (f s x)) where
  pub walk_law : (s : S) (xs : List X) → P s → AllFine Q xs → L S P (walk f s xs)
  walk_law s [] h j = lifts.pure S P s h
  walk_law s (x ∷ xs) h j = lifts.then S S P P (f s x) (λ s. walk f s xs) (keeps s x h j.0) (λ t k. walk_law t xs k j.1)

-- what is true of values, arguments, what is reached, chains, types of sets, their elements, and what is called
pub record Truths : Type 1 where
  pub value : Option Found → Type 0
  pub argument : Argument → Type 0
  pub reached : Option Reached → Type 0
  pub chained : Option Chained → Type 0
  pub sort : Option ℕ → Type 0
  pub elements : Option ℕ → Option Elements → Type 0
  pub callee : Option Callee → Type 0

module _ (L : (A : Type 0) → (A → Type 0) → A × List Row → Type 0) (e : Env) (T : Truths) where
  -- the same of nodes
  pub record Nodes : Type 0 where
    pub whole : (p : Place) (n : ℕ) → L (Option Found) T.value (expression_layer e (x.Whole p n)).value
    pub code : (p : Place) (c : ℕ) → L (Option Found) T.value (expression_layer e (x.Code p c)).value
    pub chars : (p : Place) (text : List ℕ) → L (Option Found) T.value (expression_layer e (x.Chars p text)).value
    pub set_sort : (q : Option Qualident) → L (Option ℕ) T.sort (set_sort e q)
    pub no_elements : (s : Option ℕ) → T.sort s → T.elements s (Some no_elements)
    pub joined_one : (s : Option ℕ) (es : Option Elements) (a : Option Found) → T.sort s → T.elements s es → T.value a → T.elements s (joined_one e.types s es a)
    pub joined_range : (s : Option ℕ) (es : Option Elements) (a b : Option Found) → T.sort s → T.elements s es → T.value a → T.value b → T.elements s (joined_range e.types s es a b)
    pub set : (p : Place) (s : Option ℕ) (es : Option Elements) → T.sort s → T.elements s es → L (Option Found) T.value (set_node e.types p s es)
    pub one : (p : Place) (op : OneOp) (at : Place) (a : Option Found) → T.value a → L (Option Found) T.value (one_node e.types p op at a)
    pub begun : (a : Option Found) → T.value a → T.chained (begun a)
    pub two : (p : Place) (op : TwoOp) (at : Place) (a : Option Chained) (b : Option Found) → T.chained a → T.value b → L (Option Chained) T.chained (two_node e.types p op at a b)
    pub chain : (p : Place) (a : Option Chained) → T.chained a → T.value (chain_found p a)
    pub root : (p : Place) (i : Ident) → L (Option Reached) T.reached (root_means e p i)
    pub field : (dot : Place) (i : Ident) (o : Option Reached) → T.reached o → L (Option Reached) T.reached (field_node e dot i o)
    pub index : (bracket : Place) (o : Option Reached) (i : Option Found) → T.reached o → T.value i → L (Option Reached) T.reached (index_node e.types bracket o i)
    pub follow : (arrow : Place) (o : Option Reached) → T.reached o → L (Option Reached) T.reached (follow_node e arrow o)
    pub used : (o : Option Reached) → T.reached o → L (Option Found) T.value (value_node e.texts o)
    pub typed : (p : Place) (o : Option Reached) → T.reached o → L Argument T.argument (typed_node p o)
    pub given : (a : Option Found) → T.value a → T.argument (argument.Value a)
    pub called : (o : Option Reached) → T.reached o → L (Option Callee) T.callee (callee_node e o)
    pub call : (p : Place) (c : Option Callee) (xs : List Argument) → T.callee c → AllFine T.argument xs → L (Option Found) T.value (call_node e.types p c xs)
    pub begun_at : (p : Place) (a : Option Found) → T.value a → T.value (begun_at p a)

module _ (L : (A : Type 0) → (A → Type 0) → A × List Row → Type 0) (lifts : Lifts L) (e : Env) (T : Truths) (N : Nodes L e T) where
  -- ---- what is meant
  abbrev SenseTrue : Sense → Type 0
  SenseTrue s = L (Option Found) T.value s.value × L Argument T.argument s.typed

  abbrev StepTrue : Step → Type 0
  StepTrue f = (o : Option Reached) → T.reached o → L (Option Reached) T.reached (f o)

  abbrev WayTrue : Way → Type 0
  WayTrue w = (p : Place) → L (Option Reached) T.reached (w.reach p)

  abbrev OperatesTrue : Operates → Type 0
  OperatesTrue f = (p : Place) (a : Option Chained) → T.chained a → L (Option Chained) T.chained (f p a)

  abbrev JoinsTrue : Joins → Type 0
  JoinsTrue f = (s : Option ℕ) (es : Option Elements) → T.sort s → T.elements s es → L (Option Elements) (T.elements s) (f s es)

  -- ---- arguments and calls
  as_argument_true : (m : Meaning) → L (Option Found) T.value m → L Argument T.argument (as_argument m)
  as_argument_true m h = lifts.then _ _ T.value T.argument m _ h (λ o j. lifts.pure Argument T.argument (argument.Value o) (N.given o j))

  argument_by_true : (b : Bool) (s : Sense) → SenseTrue s → L Argument T.argument (argument_by b s)
  argument_by_true true s h = h.1
  argument_by_true false s h = as_argument_true s.value h.0

  one_more : (out : List Argument) (m : Argument × List Row) → AllFine T.argument out → L Argument T.argument m → L (List Argument) (AllFine T.argument) (after m (λ one. (out ++ one ∷ [], [])))
  one_more out m h j = lifts.then _ _ T.argument (AllFine T.argument) m _ j (λ one k. lifts.pure _ (AllFine T.argument) (out ++ one ∷ []) (fine_more T.argument out one h k))

  given_true : (a : Asked) (ss : List Sense) → AllFine SenseTrue ss → L (List Argument) (AllFine T.argument) (given a ss)
  given_true a ss h = walk_law L lifts _ _ (AllFine T.argument) SenseTrue (argument_step a) (λ out s k j. one_more out (argument_by (asks_at a (length out)) s) k (argument_by_true (asks_at a (length out)) s j)) [] ss tt h

  call_of_true : (p q : Place) (c : Option Callee) (ss : List Sense) → T.callee c → AllFine SenseTrue ss → L (Option Found) T.value (call_of e p q c ss)
  call_of_true p q c ss k h =
      lifts.then _ _ T.value T.value _ _ (lifts.then _ _ (AllFine T.argument) T.value (given (asks c) ss) _ (given_true (asks c) ss h) (λ xs j. N.call q c xs k j))
      (λ o j. lifts.pure _ T.value (begun_at p o) (N.begun_at p o j))

  called_true : (p : Place) (d : Way) (ss : List Sense) → WayTrue d → AllFine SenseTrue ss → L (Option Found) T.value (called e p d ss)
  called_true p d ss w h =
      lifts.then _ _ T.callee T.value _ _ (lifts.then _ _ T.reached T.callee (d.reach d.first) (callee_node e) (w d.first) (λ o j. N.called o j)) (λ c k. call_of_true p d.first c ss k h)

  -- ---- chains, sets, indexes
  chain_true : (p : Place) (a : Meaning) (os : List Operates) → L (Option Found) T.value a → AllFine OperatesTrue os → L (Option Found) T.value (chain_means p a os)
  chain_true p a os h j =
      lifts.then _ _ T.chained T.value _ _ (lifts.then _ _ T.value T.chained a _ h (λ o k. walk_law L lifts _ _ T.chained OperatesTrue (λ s o. o p s) (λ s o l m. m p s l) (begun o) os (N.begun o k) j))
      (λ o k. lifts.pure _ T.value (chain_found p o) (N.chain p o k))

  set_true : (p : Place) (q : Option Qualident) (js : List Joins) → AllFine JoinsTrue js → L (Option Found) T.value (after (set_sort e q) (λ s. after (walk (λ es j. j s es) (Some no_elements) js) (set_node e.types p s)))
  set_true p q js h =
      lifts.then _ _ T.sort T.value (set_sort e q) _ (N.set_sort q) (λ s k.
      lifts.then _ _ (T.elements s) T.value _ (set_node e.types p s)
      (walk_law L lifts _ _ (T.elements s) JoinsTrue (λ es j. j s es) (λ es j l m. m s es k l) (Some no_elements) js (N.no_elements s k) h) (λ es l. N.set p s es k l))

  index_true : (bracket : Place) (o : Option Reached) (i : Sense) → T.reached o → SenseTrue i → L (Option Reached) T.reached (index_step e bracket o i)
  index_true bracket o i h j = lifts.then _ _ T.value T.reached i.value (index_node e.types bracket o) j.0 (λ a k. N.index bracket o a h k)

  -- ---- trees, each with its proof
  abbrev Sensed : Type 0
  Sensed = (x : Expr) × SenseTrue (sense e x)

  abbrev Stepped : Type 0
  Stepped = (x : Selector) × StepTrue (step e x)

  abbrev Reaching : Type 0
  Reaching = (d : Designator) × WayTrue (way e d)

  abbrev Operating : Type 0
  Operating = (o : Operation) × OperatesTrue (operates e o)

  abbrev Joining : Type 0
  Joining = (g : Range) × JoinsTrue (joins e g)

  -- ---- expressions
  abbrev bare : Expr-F Sensed Stepped Reaching Operating Joining → Expr-F Expr Selector Designator Operation Range
  bare = map-Expr Sensed Stepped Reaching Operating Joining Expr Selector Designator Operation Range (λ y. y.0) (λ y. y.0) (λ y. y.0) (λ y. y.0) (λ y. y.0)

  abbrev meant : Expr-F Expr Selector Designator Operation Range → Expr-F Sense Step Way Operates Joins
  meant = map-Expr Expr Selector Designator Operation Range Sense Step Way Operates Joins (sense e) (step e) (way e) (operates e) (joins e)

  rolled : (y : Expr-F Expr Selector Designator Operation Range) → sense e (roll-Expr y) ≡ expression_layer e (meant y)
  unfolding sense step way operates joins
  rolled = fold-roll-Expr Sense Step Way Operates Joins (expression_layer e) (selector_layer e) (designator_layer e) (operation_layer e) (range_layer e)

  with_value : (m : Meaning) → L (Option Found) T.value m → SenseTrue (of_value m)
  with_value m h = (h, as_argument_true m h)

  layer_true : (y : Expr-F Sensed Stepped Reaching Operating Joining) → SenseTrue (expression_layer e (meant (bare y)))
  layer_true (x.Whole p n) = with_value _ (N.whole p n)
  layer_true (x.Code p c) = with_value _ (N.code p c)
  layer_true (x.Chars p text) = with_value _ (N.chars p text)
  layer_true (x.SetOf p q rs) = with_value _ (set_true p q (map (joins e) (map (λ y. y.0) rs)) (all_parts (joins e) JoinsTrue rs))
  layer_true (x.Desig p d) =
      (lifts.then _ _ T.reached T.value ((way e d.0).reach p) (value_node e.texts) (d.1 p) (λ o h. N.used o h), lifts.then _ _ T.reached T.argument ((way e d.0).reach p) (typed_node p) (d.1 p) (λ o h. N.typed p o h))
  layer_true (x.Call p d xs) = with_value _ (called_true p (way e d.0) (map (sense e) (map (λ y. y.0) xs)) d.1 (all_parts (sense e) SenseTrue xs))
  layer_true (x.One p op at a) = with_value _ (lifts.then _ _ T.value T.value (sense e a.0).value (one_node e.types p op at) a.1.0 (λ o h. N.one p op at o h))
  layer_true (x.Chain p a os) = with_value _ (chain_true p (sense e a.0).value (map (operates e) (map (λ y. y.0) os)) a.1.0 (all_parts (operates e) OperatesTrue os))

  rolled_true : (y : Expr-F Sensed Stepped Reaching Operating Joining) → SenseTrue (sense e (roll-Expr (bare y)))
  rolled_true y = subst SenseTrue (sym (rolled (bare y))) (layer_true y)

  -- ---- selectors
  abbrev bare_selector : Selector-F Sensed Stepped Reaching Operating Joining → Selector-F Expr Selector Designator Operation Range
  bare_selector = map-Selector Sensed Stepped Reaching Operating Joining Expr Selector Designator Operation Range (λ y. y.0) (λ y. y.0) (λ y. y.0) (λ y. y.0) (λ y. y.0)

  abbrev selects : Selector-F Expr Selector Designator Operation Range → Selector-F Sense Step Way Operates Joins
  selects = map-Selector Expr Selector Designator Operation Range Sense Step Way Operates Joins (sense e) (step e) (way e) (operates e) (joins e)

  step_rolled : (y : Selector-F Expr Selector Designator Operation Range) → step e (roll-Selector y) ≡ selector_layer e (selects y)
  unfolding sense step way operates joins
  step_rolled = fold-roll-Selector Sense Step Way Operates Joins (expression_layer e) (selector_layer e) (designator_layer e) (operation_layer e) (range_layer e)

  step_layer_true : (y : Selector-F Sensed Stepped Reaching Operating Joining) → StepTrue (selector_layer e (selects (bare_selector y)))
  step_layer_true (x.Field dot i) o h = N.field dot i o h
  step_layer_true (x.Index bracket is) o h = walk_law L lifts _ _ T.reached SenseTrue (index_step e bracket) (index_true bracket) o (map (sense e) (map (λ y. y.0) is)) h (all_parts (sense e) SenseTrue is)
  step_layer_true (x.Follow arrow) o h = N.follow arrow o h

  step_true : (y : Selector-F Sensed Stepped Reaching Operating Joining) → StepTrue (step e (roll-Selector (bare_selector y)))
  step_true y = subst StepTrue (sym (step_rolled (bare_selector y))) (step_layer_true y)

  -- ---- designators
  abbrev bare_designator : Designator-F Sensed Stepped Reaching Operating Joining → Designator-F Expr Selector Designator Operation Range
  bare_designator = map-Designator Sensed Stepped Reaching Operating Joining Expr Selector Designator Operation Range (λ y. y.0) (λ y. y.0) (λ y. y.0) (λ y. y.0) (λ y. y.0)

  abbrev leads : Designator-F Expr Selector Designator Operation Range → Designator-F Sense Step Way Operates Joins
  leads = map-Designator Expr Selector Designator Operation Range Sense Step Way Operates Joins (sense e) (step e) (way e) (operates e) (joins e)

  way_rolled : (y : Designator-F Expr Selector Designator Operation Range) → way e (roll-Designator y) ≡ designator_layer e (leads y)
  unfolding sense step way operates joins
  way_rolled = fold-roll-Designator Sense Step Way Operates Joins (expression_layer e) (selector_layer e) (designator_layer e) (operation_layer e) (range_layer e)

  way_layer_true : (y : Designator-F Sensed Stepped Reaching Operating Joining) → WayTrue (designator_layer e (leads (bare_designator y)))
  way_layer_true y p =
      lifts.then _ _ T.reached T.reached (root_means e p y.first) _ (N.root p y.first) (λ o h. walk_law L lifts _ _ T.reached StepTrue (λ o s. s o) (λ o s k j. j o k) o (map (step e) (map (λ y. y.0) y.selectors)) h (all_parts (step e) StepTrue y.selectors))

  way_true : (y : Designator-F Sensed Stepped Reaching Operating Joining) → WayTrue (way e (roll-Designator (bare_designator y)))
  way_true y = subst WayTrue (sym (way_rolled (bare_designator y))) (way_layer_true y)

  -- ---- operations
  abbrev bare_operation : Operation-F Sensed Stepped Reaching Operating Joining → Operation-F Expr Selector Designator Operation Range
  bare_operation = map-Operation Sensed Stepped Reaching Operating Joining Expr Selector Designator Operation Range (λ y. y.0) (λ y. y.0) (λ y. y.0) (λ y. y.0) (λ y. y.0)

  abbrev goes_on : Operation-F Expr Selector Designator Operation Range → Operation-F Sense Step Way Operates Joins
  goes_on = map-Operation Expr Selector Designator Operation Range Sense Step Way Operates Joins (sense e) (step e) (way e) (operates e) (joins e)

  operates_rolled : (y : Operation-F Expr Selector Designator Operation Range) → operates e (roll-Operation y) ≡ operation_layer e (goes_on y)
  unfolding sense step way operates joins
  operates_rolled = fold-roll-Operation Sense Step Way Operates Joins (expression_layer e) (selector_layer e) (designator_layer e) (operation_layer e) (range_layer e)

  operation_layer_true : (y : Operation-F Sensed Stepped Reaching Operating Joining) → OperatesTrue (operation_layer e (goes_on (bare_operation y)))
  operation_layer_true y p a h = lifts.then _ _ T.value T.chained (sense e y.operand.0).value (two_node e.types p y.operator y.place a) y.operand.1.0 (λ o k. N.two p y.operator y.place a o h k)

  operates_true : (y : Operation-F Sensed Stepped Reaching Operating Joining) → OperatesTrue (operates e (roll-Operation (bare_operation y)))
  operates_true y = subst OperatesTrue (sym (operates_rolled (bare_operation y))) (operation_layer_true y)

  -- ---- ranges
  abbrev bare_range : Range-F Sensed Stepped Reaching Operating Joining → Range-F Expr Selector Designator Operation Range
  bare_range = map-Range Sensed Stepped Reaching Operating Joining Expr Selector Designator Operation Range (λ y. y.0) (λ y. y.0) (λ y. y.0) (λ y. y.0) (λ y. y.0)

  abbrev joined_to : Range-F Expr Selector Designator Operation Range → Range-F Sense Step Way Operates Joins
  joined_to = map-Range Expr Selector Designator Operation Range Sense Step Way Operates Joins (sense e) (step e) (way e) (operates e) (joins e)

  joins_rolled : (y : Range-F Expr Selector Designator Operation Range) → joins e (roll-Range y) ≡ range_layer e (joined_to y)
  unfolding sense step way operates joins
  joins_rolled = fold-roll-Range Sense Step Way Operates Joins (expression_layer e) (selector_layer e) (designator_layer e) (operation_layer e) (range_layer e)

  range_layer_true : (y : Range-F Sensed Stepped Reaching Operating Joining) → JoinsTrue (range_layer e (joined_to (bare_range y)))
  range_layer_true y = by y.low y.high
    where
      by : (low : Sensed) (high : Option Sensed) → JoinsTrue (range_layer e (joined_to (bare_range (record { low = low; high = high }))))
      by low None s es k h = lifts.then _ _ T.value (T.elements s) (sense e low.0).value _ low.1.0 (λ a l. lifts.pure _ (T.elements s) _ (N.joined_one s es a k h l))
      by low (Some high) s es k h =
          lifts.then _ _ T.value (T.elements s) (sense e low.0).value _ low.1.0 (λ a l. lifts.then _ _ T.value (T.elements s) (sense e high.0).value _ high.1.0 (λ b m. lifts.pure _ (T.elements s) _ (N.joined_range s es a b k h l m)))

  joins_true : (y : Range-F Sensed Stepped Reaching Operating Joining) → JoinsTrue (joins e (roll-Range (bare_range y)))
  joins_true y = subst JoinsTrue (sym (joins_rolled (bare_range y))) (range_layer_true y)

  -- ---- by induction
  abbrev Inductive : (Expr → Type 0) × (Selector → Type 0) × (Designator → Type 0) × (Operation → Type 0) × (Range → Type 0)
  Inductive = ((λ x. SenseTrue (sense e x)), (λ s. StepTrue (step e s)), (λ d. WayTrue (way e d)), (λ o. OperatesTrue (operates e o)), (λ g. JoinsTrue (joins e g)))

  sense_of : (x : Expr) → SenseTrue (sense e x)
  sense_of = ind-Expr (λ x. SenseTrue (sense e x)) (λ s. StepTrue (step e s)) (λ d. WayTrue (way e d)) (λ o. OperatesTrue (operates e o)) (λ g. JoinsTrue (joins e g))
      (λ x y is. subst (λ z. SenseTrue (sense e (roll-Expr z))) is (rolled_true y))
      (λ x y is. subst (λ z. StepTrue (step e (roll-Selector z))) is (step_true y))
      (λ x y is. subst (λ z. WayTrue (way e (roll-Designator z))) is (way_true y))
      (λ x y is. subst (λ z. OperatesTrue (operates e (roll-Operation z))) is (operates_true y))
      (λ x y is. subst (λ z. JoinsTrue (joins e (roll-Range z))) is (joins_true y))

  way_of : (d : Designator) → WayTrue (way e d)
  way_of = ind-Designator (λ x. SenseTrue (sense e x)) (λ s. StepTrue (step e s)) (λ d. WayTrue (way e d)) (λ o. OperatesTrue (operates e o)) (λ g. JoinsTrue (joins e g))
      (λ x y is. subst (λ z. SenseTrue (sense e (roll-Expr z))) is (rolled_true y))
      (λ x y is. subst (λ z. StepTrue (step e (roll-Selector z))) is (step_true y))
      (λ x y is. subst (λ z. WayTrue (way e (roll-Designator z))) is (way_true y))
      (λ x y is. subst (λ z. OperatesTrue (operates e (roll-Operation z))) is (operates_true y))
      (λ x y is. subst (λ z. JoinsTrue (joins e (roll-Range z))) is (joins_true y))

  pub means_true : (x : Expr) → L (Option Found) T.value (means e x)
  unfolding means
  means_true x = (sense_of x).0

  -- ---- variables, and calls that are statements
  reach_true : (d : Designator) → L (Option Reached) T.reached (reach_means e (begins d) d)
  unfolding reach_means
  reach_true d = way_of d (begins d)

  pub variable_true : (V : Option Found → Type 0) → ((o : Option Reached) → T.reached o → L (Option Found) V (variable_node o)) → (d : Designator) → L (Option Found) V (variable_means e d)
  unfolding variable_means
  variable_true V node d = lifts.then _ _ T.reached V (reach_means e (begins d) d) variable_node (reach_true d) node

  argument_in_true : (b : Bool) (x : Expr) → L Argument T.argument (argument_in e b x)
  unfolding means typed_means
  argument_in_true true x = (sense_of x).1
  argument_in_true false x = as_argument_true (sense e x).value (sense_of x).0

  arguments_true : (a : Asked) (xs : List Expr) → L (List Argument) (AllFine T.argument) (arguments_mean e a xs)
  arguments_true a xs = walk_law L lifts _ _ (AllFine T.argument) (λ x. Unit {0}) (argument_means e a) (λ out x h j. one_more out (argument_in e (asks_at a (length out)) x) h (argument_in_true (asks_at a (length out)) x)) [] xs tt (all_so (λ x. Unit {0}) (λ x. tt) xs)

  pub call_true : (V : Option RStmt → Type 0) → ((p : Place) (c : Option Callee) (xs : List Argument) → T.callee c → AllFine T.argument xs → L (Option RStmt) V (statement_node e.types p c xs)) → (d : Designator) (xs : List Expr) → L (Option RStmt) V (call_means e d xs)
  unfolding call_means
  call_true V node d xs =
      lifts.then _ _ T.callee V _ _ (lifts.then _ _ T.reached T.callee (reach_means e (begins d) d) (callee_node e) (reach_true d) (λ o h. N.called o h))
      (λ c k. lifts.then _ _ (AllFine T.argument) V (arguments_mean e (asks c) xs) (statement_node e.types (begins d) c) (arguments_true (asks c) xs) (λ given h. node (begins d) c given k h))
