-- What holds of a command's answer once its lines were written.
use Rattle.std.proofs.Common.{◌≡◌, ◌≢◌, ◌⊎◌, inl, inr, ℕ, List, Some, true, false, refl, sym, ◌∙◌, ap, subst}
use Rattle.std.proofs.lemmas.Bool.{both_ways}
use Rattle.std.specs.FinMap.{get}
use Rattle.lil_base.specs.declared.fault.SourceFault.{SourceFault}
use Rattle.lil_resolved.specs.Resolved.{Resolved}
use Rattle.lil_meaning.specs.{World.World, Items.Phase, Runs.state_of}
use Rattle.lil_volume.specs.Told.{followed_by}
use Rattle.lil_session.specs.{declared.status.Status.Status, Words.mod_file, Outcome.{cuts, settled, gives_way, Answers, SourceAnswers, TextAnswers, Blames, EndsSo, Finds, HasFault, HasMeaning, MeansAnswer, Runs}, Counted.MachineAnswers, Headline.{Allowed, Headline, IsOver}, Report.{status_lines, is_fixed, Became}}
use Rattle.lil_session.specs.Answered.{IsAnswer, IsUnrun, Call, CommandReported, Answered}
use Rattle.lil_session.specs.declared.status.Status.TheVariants as a
use Rattle.lil_session.proofs.Counting.{ran_settled, ran_memory, over_where}

pub settled_stays : (s : Status) → settled s ≡ true → gives_way s ≡ false
settled_stays a.VolumeFault is = cc
settled_stays a.KeyFault is = cc
settled_stays a.ScreenFault is = cc
settled_stays a.ChannelFault is = cc
settled_stays a.Memory is = cc
settled_stays _ is = refl

stays_settled : (s : Status) → s ≢ a.ReportFault → gives_way s ≡ false → settled s ≡ true
stays_settled a.VolumeFault other stays = cc
stays_settled a.KeyFault other stays = cc
stays_settled a.ScreenFault other stays = cc
stays_settled a.ChannelFault other stays = cc
stays_settled a.Memory other stays = cc
stays_settled a.ReportFault other stays = absurd (other refl)
stays_settled _ other stays = refl

settles_of : (s : Status) → IsAnswer s → (settled s ≡ true) ⊎ ((s ≡ a.VolumeFault) ⊎ ((s ≡ a.ScreenFault) ⊎ ((s ≡ a.ReportFault) ⊎ (s ≡ a.Memory))))
settles_of a.VolumeFault comes = inr (inl refl)
settles_of a.ScreenFault comes = inr (inr (inl refl))
settles_of a.ReportFault comes = inr (inr (inr (inl refl)))
settles_of a.Memory comes = inr (inr (inr (inr refl)))
settles_of a.KeyFault comes = absurd comes
settles_of a.ChannelFault comes = absurd comes
settles_of _ comes = inl refl

module _ {call : Call} {result : Status} (told : CommandReported call result) where
  abbrev inner : Status
  inner = told.inner

  -- What holds of the answer as far as the devices go, and of the report's fault and of Memory where they come in its place, holds of
  -- the answer.
  by_report : (P : Status → Type 0) → P inner → (settled inner ≡ true → inner ≢ a.Done → P a.ReportFault) → (settled inner ≡ true → is_fixed inner ≡ false → P a.Memory) → P result
  by_report P same failed wanted = by_cases told.reported.became
    where
      by_cases : Became inner result → P result
      by_cases (inl is) = subst P (sym is) same
      by_cases (inr (inl (stays, lines, is))) = subst P (sym is) (failed (stays_settled inner told.ran.not_report stays) lines)
      by_cases (inr (inr (stays, made, is))) = subst P (sym is) (wanted (stays_settled inner told.ran.not_report stays) made)

  -- a settled answer is the one whose lines were written
  same_settled : settled result ≡ true → result ≡ inner
  same_settled = by_report (λ (s : Status). settled s ≡ true → s ≡ inner) (λ is. refl) (λ ok lines is. cc) (λ ok made is. cc)

  -- and so is every other but the report's fault and Memory
  inner_is : (s : Status) → a.ReportFault ≢ s → a.Memory ≢ s → result ≡ s → inner ≡ s
  inner_is s no_report no_memory =
      by_report (λ (t : Status). t ≡ s → inner ≡ s) (λ is. is) (λ ok lines is. absurd (no_report is)) (λ ok made is. absurd (no_memory is))

  result_is : (s : Status) → settled result ≡ true → (gives_way inner ≡ false → inner ≡ s) → result ≡ s
  result_is s ok then = same_settled ok ∙ then (settled_stays inner (ap settled (sym (same_settled ok)) ∙ ok))

  no_screen : settled inner ≡ true → inner ≢ a.ScreenFault
  no_screen ok is = both_ways (settled inner) (ap settled is) ok

  module _ (w : World) (p : Resolved) (finds : Finds call.before.files call.before.keys w) (runs : Runs call.name w p) where
    h : Headline p w call.steps call.before call.after inner
    h = told.ran.headline w p finds runs

    -- the headline of an answer that came in the place of a settled one
    turned_headline : (s : Status) → settled inner ≡ true → s ≢ a.ScreenFault → s ≢ a.StepsSpent → Allowed s (state_of p w h.n).phase → (s ≡ a.Memory → IsOver (state_of p w h.n).phase)
        → MachineAnswers p w h.n call.steps call.before.shown call.after.shown s → Headline p w call.steps call.before call.after s
    turned_headline s ok other not_spent ends stops machine = record {
      n = h.n;
      shown = record {
        whole = λ _. h.shown.whole (no_screen ok);
        cut = λ fault. absurd (other fault);
        ends = ends;
        stops = λ memory. inr (stops memory);
        far = λ spent. absurd (not_spent spent);
        machine = machine;
      };
      keys = h.keys;
      files = h.files;
    }

    headline : Headline p w call.steps call.before call.after result
    headline =
        by_report (λ (s : Status). Headline p w call.steps call.before call.after s) h
        (λ ok lines.
        turned_headline a.ReportFault ok (λ is. cc) (λ is. cc) tt (λ is. cc) (inner, ok, lines, ran_settled p w h.n call.steps call.before.shown call.after.shown inner ok h.shown.machine))
        (λ ok made.
        turned_headline a.Memory ok (λ is. cc) (λ is. cc) tt (λ is. over_where p w h.n call.steps call.before.shown call.after.shown inner (state_of p w h.n).phase made h.shown.machine h.shown.ends)
        (inr (ran_memory p w h.n call.steps call.before.shown call.after.shown inner made h.shown.machine)))

    ends_where : (n : ℕ) (s : Status) → EndsSo (state_of p w n).phase s → settled result ≡ true → (cuts result ≡ true) ⊎ (result ≡ s)
    ends_where n s ends ok =
        let same = same_settled ok in
        subst (λ (t : Status). (cuts t ≡ true) ⊎ (t ≡ s)) (sym same) (told.ran.ends_where w p n s finds runs ends (ap settled (sym same) ∙ ok))

    phase_is : (s : Status) → result ≡ s → (n : ℕ) × Allowed s (state_of p w n).phase
    phase_is s is = (headline.n, subst (λ (t : Status). Allowed t (state_of p w headline.n).phase) is headline.shown.ends)

  answer : (w : World) → Finds call.before.files call.before.keys w → settled result ≡ true → (cuts result ≡ true) ⊎ Answers call.name w result
  answer w finds ok =
      let same = same_settled ok in
      subst (λ (s : Status). (cuts s ≡ true) ⊎ Answers call.name w s) (sym same) (told.ran.answer w finds (ap settled (sym same) ∙ ok))

  meant : (w : World) (x text : List ℕ) → Finds call.before.files call.before.keys w → call.name ≡ Some x → get w.files (mod_file x) ≡ Some text → ((f : SourceFault) → HasFault x text f → ⊥)
      → settled result ≡ true → (cuts result ≡ true) ⊎ ((p : Resolved) × HasMeaning x text p × MeansAnswer p w result)
  meant w x text finds named there fine ok = by (answer w finds ok)
    where
      of : TextAnswers x text w result → (cuts result ≡ true) ⊎ ((p : Resolved) × HasMeaning x text p × MeansAnswer p w result)
      of (inl fault) = absurd (fine fault.0 fault.1)
      of (inr end) = inr end

      by : (cuts result ≡ true) ⊎ Answers call.name w result → (cuts result ≡ true) ⊎ ((p : Resolved) × HasMeaning x text p × MeansAnswer p w result)
      by (inl cut) = inl cut
      by (inr h) = of (subst (λ o. SourceAnswers x w o result) there (subst (λ n. Answers n w result) named h))

  comes : IsAnswer result
  comes = by_report IsAnswer told.ran.kinds (λ ok lines. tt) (λ ok made. tt)

  blames : (fault : Status) (before now : ℕ) → settled fault ≡ false → a.ReportFault ≢ fault → a.Memory ≢ fault → Blames fault before now inner → Blames fault before now result
  blames fault before now unsettled no_report no_memory b =
      by_report (λ (s : Status). Blames fault before now s) b
      (λ ok lines. record { later = b.later; rose = λ is. absurd (no_report is); quiet = inl (quiet ok b.quiet) })
      (λ ok made. record { later = b.later; rose = λ is. absurd (no_memory is); quiet = inl (quiet ok b.quiet) })
    where
      quiet : settled inner ≡ true → (now ≡ before) ⊎ ((inner ≡ fault) ⊎ (inner ≡ a.Memory)) → now ≡ before
      quiet ok (inl same) = same
      quiet ok (inr (inl is)) = absurd (both_ways (settled inner) (ap settled is ∙ unsettled) ok)
      quiet ok (inr (inr is)) = absurd (both_ways (settled inner) (ap settled is) ok)

  screen_told : (result ≡ a.ScreenFault) ⊎ (call.after.screen_faults ≡ call.before.screen_faults)
  screen_told =
      by_report (λ (s : Status). (s ≡ a.ScreenFault) ⊎ (call.after.screen_faults ≡ call.before.screen_faults)) told.ran.screen_told
      (λ ok lines. inr (quiet ok told.ran.screen_told)) (λ ok made. inr (quiet ok told.ran.screen_told))
    where
      quiet : settled inner ≡ true → (inner ≡ a.ScreenFault) ⊎ (call.after.screen_faults ≡ call.before.screen_faults) → call.after.screen_faults ≡ call.before.screen_faults
      quiet ok (inl is) = absurd (no_screen ok is)
      quiet ok (inr same) = same

  nothing : IsUnrun result → call.after.shown ≡ call.before.shown
  nothing = by_report (λ (s : Status). IsUnrun s → call.after.shown ≡ call.before.shown) told.ran.nothing (λ ok lines unrun. absurd unrun) (λ ok made unrun. absurd unrun)

  -- an answer whose lines were cut was settled, and has lines
  cut_settled : result ≡ a.ReportFault → (settled inner ≡ true) × (inner ≢ a.Done)
  cut_settled =
      by_report (λ (s : Status). s ≡ a.ReportFault → (settled inner ≡ true) × (inner ≢ a.Done)) (λ is. absurd (told.ran.not_report is)) (λ ok lines is. (ok, lines)) (λ ok made is. cc)

  pub answered : Answered call result
  answered = record {
    headline = headline;
    answer = answer;
    meant = meant;
    usage_only = λ is. told.ran.usage_only (inner_is a.Usage (λ e. cc) (λ e. cc) is);
    usage_where = λ none ok. result_is a.Usage ok (told.ran.usage_where none);
    no_file_only = λ m file held is. told.ran.no_file_only m file held (inner_is (a.NoFile file) (λ e. cc) (λ e. cc) is);
    no_file_where = λ m x held named none ok. result_is _ ok (told.ran.no_file_where m x held named none);
    fault_only = λ m f held is. told.ran.fault_only m f held (inner_is (a.SourceFault f) (λ e. cc) (λ e. cc) is);
    fault_where = λ m x text f held named there has ok. result_is _ ok (told.ran.fault_where m x text f held named there has);
    done_only = λ w p finds runs is. phase_is w p finds runs a.Done is;
    done_where = λ w p n finds runs end ok. ends_where w p finds runs n a.Done (subst (λ (e : Phase). EndsSo e a.Done) (sym end) refl) ok;
    trapped_only = λ w p t finds runs is. phase_is w p finds runs (a.Trapped t) is;
    trapped_where = λ w p n t finds runs end ok. ends_where w p finds runs n (a.Trapped t) (subst (λ (e : Phase). EndsSo e (a.Trapped t)) (sym end) refl) ok;
    settles = settles_of result comes;
    no_other = comes;
    nothing = nothing;
    called = told.ran.called;
    asked = told.ran.asked;
    missed_is = λ file is. told.ran.missed_is file (inner_is (a.NoFile file) (λ e. cc) (λ e. cc) is);
    fault_is = λ f is. told.ran.fault_is f (inner_is (a.SourceFault f) (λ e. cc) (λ e. cc) is);
    volume_cause = blames a.VolumeFault call.before.volume_faults call.after.volume_faults refl (λ e. cc) (λ e. cc) told.ran.volume_cause;
    screen_cause = blames a.ScreenFault call.before.screen_faults call.after.screen_faults refl (λ e. cc) (λ e. cc) told.ran.screen_cause;
    screen_told = screen_told;
    keys_cause = told.ran.keys_cause;
    one = told.ran.one;
    report_cause = told.reported.cause;
    files = told.ran.files;
    keys = told.ran.keys;
    lines = λ ok. told.reported.whole ok ∙ ap (λ (s : Status). followed_by call.old (status_lines call.file s)) (sym (same_settled ok));
    fault_line = told.reported.still;
    line_tried = told.reported.tried;
    report_prefix = λ cut. (inner, (cut_settled cut).0, (cut_settled cut).1, told.ran.kinds, told.reported.cut cut);
    report_fault = λ w finds cut. (
      inner,
      (cut_settled cut).0,
      (cut_settled cut).1,
      told.ran.answer w finds (cut_settled cut).0,
      told.reported.cut cut,
      λ p runs. h w p finds runs,
    );
    reported = told;
  }
