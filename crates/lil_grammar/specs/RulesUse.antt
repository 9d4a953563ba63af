-- What follows from a rule: what is read and nothing else, one reading, and the exact places of the faults.
use Rattle.std.proofs.Common.{◌≡◌, ℕ, suc, ◌≤◌, ◌<◌, List, [], ◌∷◌, ◌++◌, length, append-nil, Some, None, Ok, Err, refl, subst, ap, sym, ◌∙◌, inl, inr, arith}
use Rattle.lil_base.specs.declared.fault.Place.{Place}
use Rattle.lil_text.specs.declared.{token.Token.Token, stop.ReadStop.ReadStop}
use Rattle.lil_grammar.specs.{Steps.{syntax, nested, Outcome, Parser, place_of}, Places.{Grammar, Longest, RefusedAt, TooDeepAt, StopsAt}, Rules.{Late, IsFree, Relation, Fell, Begins, IsSyntax, IsDeep, Why, Reached, Rule, took, fell, ok_same, err_same, ok_err, syntax_nested}, RulesLimit.limit}

-- a phrase with nothing behind it
pub to_end : {A : Type 0} {R : Relation A} {front on : List Token} → (b : Begins R front on) → (late : Late) → IsFree late (length (on ++ b.more)) → R late (front ++ (on ++ b.more)) [] b.tree
to_end {R = R} {front = front} {on = on} b late free =
    let all = append-nil b.more in
    subst (λ ts. R late (front ++ (on ++ ts)) [] b.tree) all (b.derives [] late (subst (λ ts. IsFree late (length (on ++ ts))) (sym all) free))

module _ {A : Type 0} {p : Parser A} {R : Relation A} {E : List Token → Type 0} (x : Rule p R E) where
  pub sound : (late : Late) (ts : List Token) (a : A) (rest : List Token) → p ts ≡ Ok (a, rest) → R late ts rest a
  sound late ts a rest is = let y = took x is in subst (λ ts. R late ts rest a) (sym y.cut) (y.derives late rest)

  pub complete : (ts rest : List Token) (a : A) → R (Some 0) ts rest a → E rest → p ts ≡ Ok (a, rest)
  complete ts rest a h e = elim (x.reaches (Some 0) ts rest a h e) [ inl n ↦ let y = fell x n.1 in absurd (never n.0 y y.why) | inr is ↦ is ]
    where
      never : (q : Place) (y : Fell p R E ts (nested q)) → Why p R E y.front y.on y.rest (nested q) → ⊥
      never q y (inl h) = syntax_nested (place_of y.rest) q (sym h.is)
      never q y (inr d) = absurd (omega (arith, d.keeps_none d.tail 0 rest a (subst (λ ts. R (Some 0) ts rest a) (y.cut ∙ ap (λ r. y.front ++ r) d.cut) h) e))

-- ---- the exact places
module _ {A : Type 0} {p : Parser A} (G : Grammar A) {E : List Token → Type 0} (n : ℕ) (x : Rule p (λ late. G (limit n late)) E) (over : E []) where
  -- what is read is the longest run that begins a phrase
  pub longest : (ts : List Token) (a : A) (rest : List Token) → p ts ≡ Ok (a, rest) → Longest G ts rest
  longest ts a rest is =
      let y = took x is in
      record {
        front = y.front;
        cut = y.cut;
        none = λ t more tree at h. none t more (y.again (t ∷ more) (inl (sym at))) (x.reaches None (y.front ++ t ∷ more) [] tree h over);
      }
    where
      none : (t : Token) (more : List Token) {o : Outcome A} {tree : A} → o ≡ Ok (a, t ∷ more) → Reached o tree [] → ⊥
      none t more is (inl n) = ok_err is n.1
      none t more is (inr is') = let same = ap (λ y. y.1) (ok_same (sym is ∙ is')) in absurd (cc)

  refused_by : {ts : List Token} {e : ReadStop} (y : Fell p (λ late. G (limit n late)) E ts e) → IsSyntax p y.front y.on y.rest e → RefusedAt G n ts (place_of y.rest)
  refused_by {e = e} y h = record {
    front = y.front;
    rest = y.rest;
    cut = y.cut;
    at = refl;
    more = y.begins.more;
    tree = y.begins.tree;
    begins = subst (λ on. G (Some (n, length y.begins.more)) (y.front ++ (on ++ y.begins.more)) [] y.begins.tree) h.none
        (to_end y.begins (Some (length y.begins.more)) (subst (λ on. length (on ++ y.begins.more) ≤ length y.begins.more) (sym h.none) (omega arith)));
    not_itself = λ tree k. none (place_of []) h.at_end (x.reaches None y.front [] tree k over);
    none = λ more tree same k. none (place_of y.rest) (y.again more same ∙ ap (λ e. Err e) h.is) (x.reaches None (y.front ++ more) [] tree k over);
  }
    where
      none : (q : Place) {o : Outcome A} {tree : A} → o ≡ Err (syntax q) → Reached o tree [] → ⊥
      none q is (inl n) = syntax_nested q n.0 (err_same (sym is ∙ n.1))
      none q is (inr is') = ok_err is' is

  too_deep_by : {ts : List Token} {e : ReadStop} (y : Fell p (λ late. G (limit n late)) E ts e) (h : IsDeep (λ late. G (limit n late)) E y.front y.on y.rest e) → TooDeepAt G n ts h.token.place
  too_deep_by y h = record {
    front = y.front;
    token = h.token;
    tail = h.tail;
    cut = y.cut ∙ ap (λ r. y.front ++ r) h.cut;
    at = refl;
    more = y.begins.more;
    tree = y.begins.tree;
    begins = subst (λ on. G (Some (n, suc (length y.begins.more))) (y.front ++ (on ++ y.begins.more)) [] y.begins.tree) h.one
        (to_end y.begins (Some (suc (length y.begins.more))) (subst (λ on. length (on ++ y.begins.more) ≤ suc (length y.begins.more)) (sym h.one) (omega arith)));
    none = λ more tree k. let less : length more < length more = h.keeps_none more (length more) [] tree k over in absurd (omega arith);
  }

  stops_by : {ts : List Token} {e : ReadStop} (y : Fell p (λ late. G (limit n late)) E ts e) → Why p (λ late. G (limit n late)) E y.front y.on y.rest e → StopsAt G n ts e
  unfolding syntax nested
  stops_by {ts} y (inl h) = subst (λ e. StopsAt G n ts e) (sym h.is) (inl (refl, refused_by y h))
  stops_by {ts} y (inr h) = subst (λ e. StopsAt G n ts e) (sym h.is) (inr (refl, too_deep_by y h))

  pub stops_at : (ts : List Token) (e : ReadStop) → p ts ≡ Err e → StopsAt G n ts e
  stops_at ts e is = let y = fell x is in stops_by y y.why
