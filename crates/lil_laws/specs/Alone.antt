-- From a program module that is loaded alone.
use Rattle.std.proofs.Common.{◌≡◌, ℕ, zero, suc, ◌+◌, ◌*◌, ◌<◌, ◌≤◌, inl, inr, true, Some, List, [], ◌∷◌, length, map, subst, refl, sym, ap, ◌∙◌, arith}
use Rattle.std.specs.Prelude.{nat_le}
use Rattle.std.proofs.lemmas.{Bool.le-leb, Option.{none-some, same_Some}}
use Rattle.lil_base.specs.declared.fault.{TrapKind.TrapKind, LimitKind.LimitKind}
use Rattle.lil_base.specs.declared.fault.LimitKind.TheVariants as limit
use Rattle.lil_resolved.specs.{Kinds.all_words, Resolved.{Resolved, outline_of}, Sizes.{frame_words, IsSmall}}
use Rattle.lil_meaning.specs.{World.World, Items.{Phase, Trapped, Source}, Steps.next, Runs.{begun, state_of}}
use Rattle.lil_mcode.specs.Table.{Module, State, module_at}
use Rattle.lil_table.specs.{Rows.{lone_number, Translates}, Lengths.body_small}
use Rattle.lil_match.specs.{Homes.Listed, Goes.Short, Running.{mrun, running}, Parts.yes}
use Rattle.lil_laws.specs.{Loading.{Compiled, IsSpent, entry_for, table_from, image, loaded}, Whole.{TrapsIn, Unlimited, Agrees, agrees_more}, Reaching.Reaches, Start.Body}
use Rattle.lil_laws.specs.Start as all

module _ (p : Resolved) (strings entries code : List ℕ) (small : IsSmall p strings) (t : Translates p strings entries code) where
  abbrev one : Compiled
  one = record { text = p; strings = strings; entries = entries; code = code; translates = t }

  abbrev its_body : Body (one ∷ [])
  its_body = record { index = 0; its = one; there = refl }

  abbrev pub table : List Module
  table = table_from 1 (one ∷ [])

  abbrev pub begins : State
  begins = image (one ∷ []) 1 []

  -- what it lists
  abbrev listed : Listed
  listed = record { targets = p.targets; signatures = p.signatures; procedures = map outline_of p.procedures; number = lone_number }

  same : all.Listing (one ∷ []) listed
  same zero o e = subst (all.IsListed (one ∷ []) listed 0) (same_Some one o e) (record { targets = refl; signatures = refl; procedures = refl; number = refl; lone = refl })
  same (suc i) o e = absurd (none-some o e)

  room : 1 + (all_words p.variables + length strings) + frame_words [] p.body ≤ 65535
  room = omega (arith, body_small p.body, small.code, small.words)

  -- what was loaded
  pub loaded_state : (loaded p strings entries code).state ≡ begins
  loaded_state =
      let room : nat_le (1 + (all_words p.variables + length strings) + 4) 65535 ≡ true = le-leb (1 + (all_words p.variables + length strings) + 4) 65535 (omega (arith, small.words)) in
      yes _ _ _ room

  -- a limit is one of words: of the stack or of the store
  spent : (t : Source) (k : LimitKind) → Short (p ∷ []) (all.ctx (one ∷ []) listed same its_body [] room).stack.base (next (p ∷ []) t) k → IsSpent p strings k t
  spent t limit.Stack e = record { kind = inl (refl, e.1); short = omega (arith, e.0.less) }
  spent t limit.Store e = record { kind = inr refl; short = omega (arith, e.less) }
  spent t k e = absurd e

  pub record Correct (w : World) (steps : ℕ) : Type 0 where
    pub n : ℕ
    pub agrees : Agrees table (IsSpent p strings) (state_of p w n) (mrun steps (running begins w))
    pub far : Unlimited (mrun steps (running begins w)) → steps < 32 * n + 33

  pub correct : (w : World) (steps : ℕ) → Correct w steps
  correct w steps =
      let c = all.correct (one ∷ []) listed same its_body [] room w steps in
      record { n = c.n; agrees = agrees_more table _ (IsSpent p strings) (state_of p w c.n) (mrun steps (running begins w)) (spent (state_of p w c.n)) c.agrees; far = c.far }

  pub reached : (w : World) (n : ℕ) → Reaches (p ∷ []) (begun (p ∷ []) (0 ∷ []) (1 ∷ []) w) (running begins w) n
  reached w n = all.reached (one ∷ []) listed same its_body [] room w n

  -- the one module of the table
  abbrev pub own : Module
  own = entry_for one 1

  -- a trap is in its body
  pub own_traps : (k : TrapKind) (m : State) (e : Phase) → (r : TrapsIn table k m e) → own ≡ r.own
  own_traps k m e r = by m.running r.known
    where
      by : (n : ℕ) → module_at table n ≡ Some r.own → own ≡ r.own
      by zero there = cc
      by (suc zero) there = same_Some own r.own there
      by (suc (suc n)) there = cc

  pub alone_traps : (k : TrapKind) (m : State) (e : Phase) → (r : TrapsIn table k m e) → e ≡ Trapped (record { kind = k; «module» = p.name; procedure = r.name })
  alone_traps k m e r = r.is ∙ ap (λ (m : Module). Trapped (record { kind = k; «module» = m.name; procedure = r.name })) (sym (own_traps k m e r))
