-- What a function that reads by a syntax of the grammar may rely on, and how it goes into a part.
use Rattle.std.proofs.Common.{◌≡◌, ◌⊎◌, ℕ, suc, ◌-◌, ◌<◌, true, false, List, [], Result, Ok, Err, IfOk, IfErr, refl, ap, subst, sym, inl, inr, arith}
use Rattle.lil_text.specs.{declared.{token.Token.Token, stop.ReadStop.{ReadStop, TheVariants.{Fault, Memory}}}, Nesting.{Limit, within}}
use Rattle.lil_base.specs.declared.fault.SourceFault.{SourceFault}
use Rattle.lil_grammar.specs.{Steps.{Outcome, and_then, pure, at, either_by, Reads, shallow}, Places.{Longest, StopsAt, AnswersAt}, Rules.ok_err}
use Rattle.lil_syntax.specs.{Terminals.among, Syntax.{◌or◌, decided, parse, reads, before, read}}
use Rattle.lil_syntax.specs.GrammarLaws as laws
use Rattle.lil_language.specs.{Grammar.{Of, Part, Tree, Derives, Ends, applied, put_to, reading, turns, grammar, first, goes, produced}, Sound.sound}

module _ {A : Type 0} (s : Of A) (by_one : decided first goes s ≡ true) (d : ℕ) (ts new : List Token) (result : Result A ReadStop) (reads : Reads (reading d s ts) result new) where
  pub found : IfOk result (λ x. Derives s (within d) ts new x)
  unfolding grammar parse reading
  found = laws.found grammar sound s by_one d ts new result reads

  pub longest : IfOk result (λ x. Longest (Derives s) ts new)
  unfolding grammar parse reading
  longest = laws.longest grammar sound s by_one d ts new result reads

  pub only : (x : A) (rest : List Token) → Derives s (within d) ts rest x → Ends s rest → Reads (Ok (x, rest)) result new
  unfolding grammar parse reading
  only = laws.only grammar sound s by_one d ts new result reads

  pub stops : IfErr result (λ e. StopsAt (Derives s) d ts e)
  unfolding grammar parse reading
  stops = laws.stops grammar sound s by_one d ts new result reads

  -- what is described is answered
  pub exactly : (o : Outcome A) → AnswersAt (Derives s) d ts o → Reads o result new
  unfolding grammar parse reading
  exactly o h = subst (λ o. Reads o result new) (laws.exactly grammar sound s by_one d ts o h) reads

-- one reading, whatever the limits
pub unique : {A : Type 0} (s : Of A) → decided first goes s ≡ true → (l l' : Limit) (ts rest rest' : List Token) (x y : A) → Derives s l ts rest x → Derives s l' ts rest' y → Ends s rest → Ends s rest' → (x ≡ y) × (rest ≡ rest')
unfolding grammar
unique s by_one l l' ts rest rest' x y = laws.unique grammar sound s by_one l l' ts rest rest' x y

-- what is read is not stopped at
pub never_both : {A : Type 0} (s : Of A) → decided first goes s ≡ true → (d : ℕ) (ts rest : List Token) (x : A) (f : SourceFault) → Derives s (within d) ts rest x → Ends s rest → StopsAt (Derives s) d ts (Fault f) → ⊥
unfolding grammar
never_both s by_one d ts rest x f h ends stops = ok_err (laws.is_read grammar sound s by_one d ts rest x h ends) (laws.exactly grammar sound s by_one d ts (Err (Fault f)) stops)

-- it is read, or it stops at a fault
pub read_or_stopped : {A : Type 0} (s : Of A) → decided first goes s ≡ true → (d : ℕ) (ts : List Token)
    → ((x : A) × (rest : List Token) × Derives s (within d) ts rest x) ⊎ ((f : SourceFault) × StopsAt (Derives s) d ts (Fault f))
unfolding grammar
read_or_stopped {A} s by_one d ts = by (parse grammar d s ts) refl
  where
    by : (o : Outcome A) → parse grammar d s ts ≡ o → ((x : A) × (rest : List Token) × Derives s (within d) ts rest x) ⊎ ((f : SourceFault) × StopsAt (Derives s) d ts (Fault f))
    by (Ok y) is = inl (y.0, y.1, laws.is_derived grammar sound s by_one d ts y.0 y.1 is)
    by (Err (Fault f)) is = inr (f, laws.stops grammar sound s by_one d ts [] (Err (Fault f)) (λ other. is))
    by (Err Memory) is = absurd (laws.never_memory grammar sound s by_one d ts is)

-- a part, by its production, or refused where no level is left
module _ (d : ℕ) (n : Part) (ts new : List Token) (r : Result (Tree n) ReadStop) where
  pub read_deeper : 0 < d → Reads (reading (d - 1) (produced n) ts) r new → Reads (read grammar d n ts) r new
  unfolding read grammar reading
  read_deeper some k = let e : suc (d - 1) ≡ d = omega arith in subst (λ d. Reads (read grammar d n ts) r new) e k

  pub read_none : d ≡ 0 → Reads (shallow (among (first n)) ts) r new → Reads (read grammar d n ts) r new
  unfolding read grammar
  read_none e k = subst (λ d. Reads (read grammar d n ts) r new) (sym e) k

-- one of two ways, by the first token
module _ {A : Type 0} (p q : Of A) (d : ℕ) (ts new : List Token) (r : Result A ReadStop) where
  pub first_way : true ≡ at (turns p) ts → Reads (reading d p ts) r new → Reads (reading d (p or q) ts) r new
  unfolding reading reads
  first_way h k = subst (λ o. Reads o r new) (sym (ap (λ b. either_by (reading d p) (reading d q) b ts) (sym h))) k

  pub other_way : false ≡ at (turns p) ts → Reads (reading d q ts) r new → Reads (reading d (p or q) ts) r new
  unfolding reading reads
  other_way h k = subst (λ o. Reads o r new) (sym (ap (λ b. either_by (reading d p) (reading d q) b ts) (sym h))) k

-- the same of forms that wait for what was read before them
module _ {A B : Type 0} (x : A) (p q : Of (A → B)) (d : ℕ) (ts new : List Token) (r : Result B ReadStop) where
  pub first_applied : true ≡ at (turns p) ts → Reads (reading d (applied x p) ts) r new → Reads (reading d (applied x (p or q)) ts) r new
  unfolding reading reads before
  first_applied h k = subst (λ o. Reads o r new) (sym (ap (λ b. and_then (either_by (reading d p) (reading d q) b ts) (λ f. pure (put_to x f))) (sym h))) k

  pub other_applied : false ≡ at (turns p) ts → Reads (reading d (applied x q) ts) r new → Reads (reading d (applied x (p or q)) ts) r new
  unfolding reading reads before
  other_applied h k = subst (λ o. Reads o r new) (sym (ap (λ b. and_then (either_by (reading d p) (reading d q) b ts) (λ f. pure (put_to x f))) (sym h))) k

module _ {A B C : Type 0} (x : B) (y : A) (p q : Of (A → B → C)) (d : ℕ) (ts new : List Token) (r : Result C ReadStop) where
  pub first_applied_twice : true ≡ at (turns p) ts → Reads (reading d (applied x (applied y p)) ts) r new → Reads (reading d (applied x (applied y (p or q))) ts) r new
  unfolding reading reads before
  first_applied_twice h k = subst (λ o. Reads o r new) (sym (ap (λ b. and_then (and_then (either_by (reading d p) (reading d q) b ts) (λ f. pure (put_to y f))) (λ f. pure (put_to x f))) (sym h))) k

  pub other_applied_twice : false ≡ at (turns p) ts → Reads (reading d (applied x (applied y q)) ts) r new → Reads (reading d (applied x (applied y (p or q))) ts) r new
  unfolding reading reads before
  other_applied_twice h k = subst (λ o. Reads o r new) (sym (ap (λ b. and_then (and_then (either_by (reading d p) (reading d q) b ts) (λ f. pure (put_to y f))) (λ f. pure (put_to x f))) (sym h))) k

pub ruleset ways = (first_way, other_way)

pub ruleset applied_ways = (first_applied, other_applied)

pub ruleset applied_twice_ways = (first_applied_twice, other_applied_twice)
