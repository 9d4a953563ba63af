-- Each answer of a parser comes exactly where it is described.
use Rattle.std.proofs.Common.{◌≡◌, ℕ, suc, ◌<◌, List, [], ◌∷◌, ◌++◌, length, length-append, append_assoc, append-nil, Some, None, Ok, Err, refl, subst, ap, sym, ◌∙◌, inl, inr, arith}
use Rattle.lil_base.specs.declared.fault.Place.{Place}
use Rattle.lil_text.specs.{declared.{token.Token.Token, stop.ReadStop.{ReadStop, TheVariants.{Fault, Memory}}}, Nesting.within}
use Rattle.lil_grammar.specs.{Steps.{syntax, nested, Outcome, Parser, first, place_of}, Places.{Grammar, IsRun, RefusedAt, TooDeepAt, AnswersAt}, Rules.{Late, IsFree, Relation, Took, Fell, IsDeep, Why, Answered, Reached, Rule, ok_same, err_same, ok_err, syntax_nested, first-append, is_free_less}, RulesLimit.limit, RulesUse.{to_end, complete}}

head_same : {t u : Token} {ts us : List Token} → ◌≡◌ {A = List Token} (t ∷ ts) (u ∷ us) → t ≡ u
head_same e = cc

tail_same : {t u : Token} {ts us : List Token} → ◌≡◌ {A = List Token} (t ∷ ts) (u ∷ us) → ts ≡ us
tail_same e = cc

-- two ways to cut a list: the first cut stands no later, or behind
pub data Cuts (a b x y : List Token) : Type 0 where
  before : (d : List Token) → b ≡ a ++ d → x ≡ d ++ y → Cuts a b x y
  behind : (t : Token) (d : List Token) → a ≡ b ++ t ∷ d → y ≡ t ∷ (d ++ x) → Cuts a b x y

cuts_on : (t u : Token) (a b x y : List Token) → t ≡ u → Cuts a b x y → Cuts (t ∷ a) (u ∷ b) x y
cuts_on t u a b x y e (before d h k) = before d (ap (λ b. u ∷ b) h ∙ ap (λ t. t ∷ (a ++ d)) (sym e)) k
cuts_on t u a b x y e (behind v d h k) = behind v d (ap (λ a. t ∷ a) h ∙ ap (λ t. t ∷ (b ++ v ∷ d)) e) k

pub cuts : (a b x y : List Token) → a ++ x ≡ b ++ y → Cuts a b x y
cuts [] b x y e = before b refl e
cuts (t ∷ a) [] x y e = behind t a refl (sym e)
cuts (t ∷ a) (u ∷ b) x y e = cuts_on t u a b x y (head_same e) (cuts a b x y (tail_same e))

moved : (front a d z : List Token) → front ≡ a ++ d → front ++ z ≡ a ++ (d ++ z)
moved front a d z h = ap (λ front. front ++ z) h ∙ append_assoc a d z

-- not all was read
goes_past : {A : Type 0} {o : Outcome A} {a b : A} (l : List Token) → o ≡ Ok (a, l) → 0 < length l → Reached o b [] → ⊥
goes_past l is some (inl n) = ok_err is n.1
goes_past l is some (inr is') = absurd (omega (arith, ap (λ y. length y.1) (ok_same (sym is ∙ is'))))

module _ {A : Type 0} {p : Parser A} (G : Grammar A) {E : List Token → Type 0} (n : ℕ) (x : Rule p (λ late. G (limit n late)) E) (over : E []) where
  abbrev R : Relation A
  R late = G (limit n late)

  -- a phrase beyond the place of a refusal is reached only where that is too deep
  is_deep : {ts : List Token} {e : ReadStop} {a : A} (y : Fell p R E ts e) (more : List Token) → first more ≡ first y.rest → Reached (p (y.front ++ more)) a [] → IsDeep R E y.front y.on y.rest e
  is_deep {e = e} {a = a} y more same reached = by y.why (y.again more same) reached
    where
      by : {o : Outcome A} → Why p R E y.front y.on y.rest e → o ≡ Err e → Reached o a [] → IsDeep R E y.front y.on y.rest e
      by (inl s) is (inl m) = absurd (syntax_nested (place_of y.rest) m.0 (sym s.is ∙ err_same (sym is ∙ m.1)))
      by (inl s) is (inr is') = absurd (ok_err is' is)
      by (inr w) is m = w

  begins_deep : {ts : List Token} {e : ReadStop} (y : Fell p R E ts e) (w : IsDeep R E y.front y.on y.rest e) → G None (y.front ++ w.token ∷ y.begins.more) [] y.begins.tree
  begins_deep y w = subst (λ on. G None (y.front ++ (on ++ y.begins.more)) [] y.begins.tree) w.one (to_end y.begins None tt)

  -- an answer, by where parsing stopped: no later than front, behind which no phrase goes on
  module _ (ts front rest : List Token) (cut : ts ≡ front ++ rest) (o : Outcome A)
      (none : (t : Token) (more : List Token) (tree : A) → first rest ≡ Some t → ((late : Late) → IsFree late (length more) → R late (front ++ t ∷ more) [] tree) → ⊥)
      (took_at : (a : A) (left : List Token) (y : Took p R ts a left) (c : List Token) → front ≡ y.front ++ c → left ≡ c ++ rest → ◌≡◌ {A = Outcome A} (Ok (a, left)) o)
      (fell_at : (e : ReadStop) (y : Fell p R E ts e) → Why p R E y.front y.on y.rest e → (c : List Token) → front ≡ y.front ++ c → y.rest ≡ c ++ rest → ◌≡◌ {A = Outcome A} (Err e) o) where
    past : (begun z : List Token) (tree : A) (t : Token) (c : List Token) → begun ≡ front ++ t ∷ c → first rest ≡ Some t → ((late : Late) → IsFree late (length z) → R late (begun ++ z) [] tree) → ⊥
    past begun z tree t c h at derives =
        none t (c ++ z) tree at (λ late free. subst (λ ts. R late ts [] tree) (moved begun front (t ∷ c) z h) (derives late (is_free_less late (omega (arith, length-append c z)) free)))

    answer_by : (r : Outcome A) → Answered p R E ts r → r ≡ o
    answer_by (Ok r) y = by (cuts y.front front r.1 rest (sym y.cut ∙ cut))
      where
        by : Cuts y.front front r.1 rest → ◌≡◌ {A = Outcome A} (Ok r) o
        by (before c h k) = took_at r.0 r.1 y c h k
        by (behind t c h k) = absurd (past y.front [] r.0 t c h (ap first k) (λ late free. y.derives late []))
    answer_by (Err e) y = by (cuts y.front front y.rest rest (sym y.cut ∙ cut))
      where
        by : Cuts y.front front y.rest rest → ◌≡◌ {A = Outcome A} (Err e) o
        by (before c h k) = fell_at e y y.why c h k
        by (behind t c h k) = absurd (past y.front (y.on ++ y.begins.more) y.begins.tree t c h (ap first k) (to_end y.begins))

    answer : p ts ≡ o
    answer = answer_by (p ts) (x.answered ts)

  -- ---- fault 12
  module _ (ts : List Token) (q : Place) (d : TooDeepAt G n ts q) where
    deep_derives : (front c : List Token) → d.front ≡ front ++ c → R (Some (suc (length d.more))) (front ++ (c ++ d.token ∷ d.more)) [] d.tree
    deep_derives front c h = subst (λ ts. G (Some (n, suc (length d.more))) ts [] d.tree) (moved d.front front c (d.token ∷ d.more) h) d.begins

    deep_reached : (front c : List Token) → d.front ≡ front ++ c → Reached (p (front ++ (c ++ d.token ∷ d.more))) d.tree []
    deep_reached front c h = x.reaches (Some (suc (length d.more))) (front ++ (c ++ d.token ∷ d.more)) [] d.tree (deep_derives front c h) over

    goes_on : {rest : List Token} (c : List Token) → rest ≡ c ++ d.token ∷ d.tail → first (c ++ d.token ∷ d.more) ≡ first rest
    goes_on c k = first-append c (d.token ∷ d.more) (d.token ∷ d.tail) refl ∙ ap first (sym k)

    deep_none : (t : Token) (more : List Token) (tree : A) → first (d.token ∷ d.tail) ≡ Some t → ((late : Late) → IsFree late (length more) → R late (d.front ++ t ∷ more) [] tree) → ⊥
    deep_none t more tree at derives = let same : d.token ≡ t = cc in d.none more tree (subst (λ t. G (Some (n, length more)) (d.front ++ t ∷ more) [] tree) (sym same) (derives (Some (length more)) (omega arith)))

    deep_took : (a : A) (left : List Token) (y : Took p R ts a left) (c : List Token) → d.front ≡ y.front ++ c → left ≡ c ++ (d.token ∷ d.tail) → ◌≡◌ {A = Outcome A} (Ok (a, left)) (Err (nested q))
    deep_took a left y c h k = let z = c ++ d.token ∷ d.more in absurd (goes_past z (y.again z (inl (goes_on c k))) (omega (arith, length-append c (d.token ∷ d.more))) (deep_reached y.front c h))

    deep_place : (e : ReadStop) (y : Fell p R E ts e) → IsDeep R E y.front y.on y.rest e → (c : List Token) → d.front ≡ y.front ++ c → y.rest ≡ c ++ (d.token ∷ d.tail) → e ≡ nested q
    deep_place e y w [] h k = w.is ∙ ap (λ t. nested t.place) (head_same (sym w.cut ∙ k)) ∙ ap nested (sym d.at)
    deep_place e y w (t ∷ c) h k =
        let same : t ≡ w.token = head_same (sym k ∙ w.cut) in
        let z = c ++ d.token ∷ d.more in
        let less = w.keeps_none z (suc (length d.more)) [] d.tree (subst (λ t. R (Some (suc (length d.more))) (y.front ++ t ∷ z) [] d.tree) same (deep_derives y.front (t ∷ c) h)) over in
        absurd (omega (arith, less, length-append c (d.token ∷ d.more)))

    pub too_deep_is : p ts ≡ Err (nested q)
    too_deep_is = answer ts d.front (d.token ∷ d.tail) d.cut (Err (nested q)) deep_none deep_took
        (λ e y why c h k. ap (λ e. Err e) (deep_place e y (is_deep y (c ++ d.token ∷ d.more) (goes_on c k) (deep_reached y.front c h)) c h k))

  -- ---- fault 10
  module _ (ts : List Token) (q : Place) (d : RefusedAt G n ts q) where
    refused_derives : (front c : List Token) → d.front ≡ front ++ c → R (Some (length d.more)) (front ++ (c ++ d.more)) [] d.tree
    refused_derives front c h = subst (λ ts. G (Some (n, length d.more)) ts [] d.tree) (moved d.front front c d.more h) d.begins

    refused_reached : (front c : List Token) → d.front ≡ front ++ c → Reached (p (front ++ (c ++ d.more))) d.tree []
    refused_reached front c h = x.reaches (Some (length d.more)) (front ++ (c ++ d.more)) [] d.tree (refused_derives front c h) over

    refused_took : (a : A) (left : List Token) (y : Took p R ts a left) (c : List Token) → d.front ≡ y.front ++ c → left ≡ c ++ d.rest → ◌≡◌ {A = Outcome A} (Ok (a, left)) (Err (syntax q))
    refused_took a left y [] h k = absurd (d.not_itself a (subst (λ ts. G None ts [] a) (sym h) (y.derives None [])))
    refused_took a left y (t ∷ c) h k = absurd (goes_past (t ∷ (c ++ d.more)) (y.again (t ∷ (c ++ d.more)) (inl (ap first (sym k)))) (omega arith) (refused_reached y.front (t ∷ c) h))

    refused_fell : (e : ReadStop) (y : Fell p R E ts e) → Why p R E y.front y.on y.rest e → (c : List Token) → d.front ≡ y.front ++ c → y.rest ≡ c ++ d.rest → ◌≡◌ {A = Outcome A} (Err e) (Err (syntax q))
    refused_fell e y (inl s) [] h k = ap (λ e. Err e) (s.is ∙ ap (λ r. syntax (place_of r)) k ∙ ap syntax (sym d.at))
    refused_fell e y (inr w) [] h k = absurd (d.none (w.token ∷ y.begins.more) y.begins.tree (ap first (sym w.cut ∙ k))
        (subst (λ front. G None (front ++ w.token ∷ y.begins.more) [] y.begins.tree) (sym (h ∙ append-nil y.front)) (begins_deep y w)))
    refused_fell e y why (t ∷ c) h k =
        let z = c ++ d.more in
        let w = is_deep y (t ∷ z) (ap first (sym k)) (refused_reached y.front (t ∷ c) h) in
        let same : t ≡ w.token = head_same (sym k ∙ w.cut) in
        let less = w.keeps_none z (length d.more) [] d.tree (subst (λ t. R (Some (length d.more)) (y.front ++ t ∷ z) [] d.tree) same (refused_derives y.front (t ∷ c) h)) over in
        absurd (omega (arith, less, length-append c d.more))

    pub refused_is : p ts ≡ Err (syntax q)
    refused_is = answer ts d.front d.rest d.cut (Err (syntax q)) (λ t more tree at derives. d.none (t ∷ more) tree (sym at) (derives None tt)) refused_took refused_fell

  -- ---- no fault
  module _ (ts rest : List Token) (a : A) (d : IsRun G n ts rest a) where
    run_reads : (front : List Token) → d.run.front ≡ front → p front ≡ Ok (a, [])
    run_reads front e = complete x front [] a (subst (λ ts. G (within n) ts [] a) e d.is) over

    run_took : (b : A) (left : List Token) (y : Took p R ts b left) (c : List Token) → d.run.front ≡ y.front ++ c → left ≡ c ++ rest → ◌≡◌ {A = Outcome A} (Ok (b, left)) (Ok (a, rest))
    run_took b left y [] h k =
        let same : b ≡ a = ap (λ y. y.0) (ok_same (sym (y.again [] (inr refl)) ∙ run_reads (y.front ++ []) h)) in
        ap (λ b. Ok (b, left)) same ∙ ap (λ rest. Ok (a, rest)) k
    run_took b left y (t ∷ c) h k = absurd (goes_past (t ∷ c) (y.again (t ∷ c) (inl (ap first (sym k)))) (omega arith) (inr (run_reads (y.front ++ t ∷ c) h)))

    run_fell : (e : ReadStop) (y : Fell p R E ts e) → Why p R E y.front y.on y.rest e → (c : List Token) → d.run.front ≡ y.front ++ c → y.rest ≡ c ++ rest → ◌≡◌ {A = Outcome A} (Err e) (Ok (a, rest))
    run_fell e y (inl s) [] h k = absurd (ok_err (run_reads y.front (h ∙ append-nil y.front)) s.at_end)
    run_fell e y (inr w) [] h k = absurd (d.run.none w.token y.begins.more y.begins.tree (ap first (sym k ∙ w.cut))
        (subst (λ front. G None (front ++ w.token ∷ y.begins.more) [] y.begins.tree) (sym (h ∙ append-nil y.front)) (begins_deep y w)))
    run_fell e y why (t ∷ c) h k = absurd (ok_err (run_reads (y.front ++ t ∷ c) h) (y.again (t ∷ c) (ap first (sym k))))

    pub run_is : p ts ≡ Ok (a, rest)
    run_is = answer ts d.run.front rest d.run.cut (Ok (a, rest)) (λ t more tree at derives. d.run.none t more tree at (derives None tt)) run_took run_fell

  -- ---- what is described is answered
  pub exactly : (ts : List Token) (o : Outcome A) → AnswersAt G n ts o → p ts ≡ o
  exactly ts (Ok y) h = run_is ts y.1 y.0 h
  exactly ts (Err (Fault f)) (inl h) = refused_is ts f.place h.1 ∙ ap (λ e. Err e) (sym h.0)
  exactly ts (Err (Fault f)) (inr h) = too_deep_is ts f.place h.1 ∙ ap (λ e. Err e) (sym h.0)
  exactly ts (Err Memory) h = absurd h
