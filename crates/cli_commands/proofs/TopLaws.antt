-- From the ends of a run to its clauses.
use Rattle.std.proofs.Common.{◌≡◌, ◌⊎◌, ◌≤◌, ℕ, List, refl, sym, ap, ◌∙◌, subst, inl, inr, arith, lit≤}
use Rattle.std.specs.Prelude.{Option, None, false}
use Rattle.fed_ports.specs.Bytes.{Appends}
use Rattle.fed_base.specs.Counts.{Rose}
use Rattle.fed_ports.specs.Stores.{Files}
use Rattle.fed_ports.specs.Times.{ClockAt}
use Rattle.cli_commands.specs.Answers.{Answers, IsEnded, IsMomentFor, IsReached, Outside, Output, Stands, StopsAs, Tells, UsesClock, named, reads_clock, stop_status, wants_input}
use Rattle.cli_commands.specs.Runs.{IsRun, World, told_of}
use Rattle.cli_commands.specs.declared.answer.Stop.{Stop}
use Rattle.cli_commands.specs.declared.answer.Stop.TheVariants.{Source, Store, Memory}
use Rattle.cli_words.specs.declared.command.Command.{Command}
use Rattle.cli_rings.specs.declared.reply.Reply.{Reply}
use Rattle.cli_commands.proofs.ReplyLaws.{reached_once, reply_small}

small_of : (c : Command) (moment : ℕ) (files : Option Files) (left left' : Option (List ℕ)) (r : Reply) → IsReached c moment files left left' r → r.status ≤ 2
small_of c moment files left left' r reached = reply_small c moment reached.file reached.is_reply.prepared _ r reached.is_reply.is_prepared reached.is_reply.outcome

-- ---- where there was a reply

-- the outside with this input
abbrev pub outside : Option (List ℕ) → Output → Outside
outside left o = record { left = left; held = o.held; files = o.files }

pub ended_answers : (c : Command) (moment : ℕ) (left left' : Option (List ℕ)) (x y : Output) (r : Reply) (status : ℕ) → IsReached c moment x.files left left' r
    → IsEnded c r x y status → Answers c moment (outside left x) (outside left' y) status
ended_answers c moment left left' x y r status reached (inl (is, a, b, written, stands)) =
    let small = small_of c moment x.files left left' r reached in
    record {
      done = λ few. (r, reached, is, written, stands);
      exact = λ file input s fixed wanted reply.
          let same = reached_once c moment x.files left left' file input r s reached fixed wanted reply in
          inl (is ∙ ap (λ z. z.status) same, subst (λ z. Appends x.held y.held z.text) same written, subst (λ z. Stands c x.files y.files z.kept) same stands);
      cut = λ four. absurd (omega (arith, is, small, four));
      torn = λ six. absurd (omega (arith, is, small, six));
      untouched = λ either. absurd (not_three_or_five status r.status is small either);
      silent = λ either. absurd (not_stopped status r.status is small either);
    }
  where
    not_three_or_five : (s n : ℕ) → s ≡ n → n ≤ 2 → (s ≡ 3) ⊎ (s ≡ 5) → ⊥
    not_three_or_five s n is small (inl e) = absurd (omega (arith, is, small, e))
    not_three_or_five s n is small (inr e) = absurd (omega (arith, is, small, e))

    not_stopped : (s n : ℕ) → s ≡ n → n ≤ 2 → (s ≡ 3) ⊎ ((s ≡ 5) ⊎ (s ≡ 6)) → ⊥
    not_stopped s n is small (inl e) = absurd (omega (arith, is, small, e))
    not_stopped s n is small (inr (inl e)) = absurd (omega (arith, is, small, e))
    not_stopped s n is small (inr (inr e)) = absurd (omega (arith, is, small, e))
ended_answers c moment left left' x y r status reached (inr (inl (is, a, b, (n, written), stands))) =
    record {
      done = λ few. absurd (omega (arith, is, few));
      exact = λ file input s fixed wanted reply. inr (inr (inl is));
      cut = λ four. (r, n, reached, written, stands);
      torn = λ six. absurd (omega (arith, is, six));
      untouched = λ either. absurd (not_four status is either);
      silent = λ either. absurd (not_four' status is either);
    }
  where
    not_four : (s : ℕ) → s ≡ 4 → (s ≡ 3) ⊎ (s ≡ 5) → ⊥
    not_four s is (inl e) = absurd (omega (arith, is, e))
    not_four s is (inr e) = absurd (omega (arith, is, e))

    not_four' : (s : ℕ) → s ≡ 4 → (s ≡ 3) ⊎ ((s ≡ 5) ⊎ (s ≡ 6)) → ⊥
    not_four' s is (inl e) = absurd (omega (arith, is, e))
    not_four' s is (inr (inl e)) = absurd (omega (arith, is, e))
    not_four' s is (inr (inr e)) = absurd (omega (arith, is, e))
ended_answers c moment left left' x y r status reached (inr (inr (is, a, b, held, (e, torn)))) =
    record {
      done = λ few. absurd (omega (arith, is, few));
      exact = λ file input s fixed wanted reply. inr (inr (inr (inr is)));
      cut = λ four. absurd (omega (arith, is, four));
      torn = λ six. inr (r, e, reached, torn);
      untouched = λ either. absurd (not_six status is either);
      silent = λ either. held;
    }
  where
    not_six : (s : ℕ) → s ≡ 6 → (s ≡ 3) ⊎ (s ≡ 5) → ⊥
    not_six s is (inl e) = absurd (omega (arith, is, e))
    not_six s is (inr e) = absurd (omega (arith, is, e))

-- a count that stood tells nothing
stood : (wanted before now status : ℕ) → now ≡ before → (status ≡ wanted → ⊥) → Tells wanted before now status
stood wanted before now status same other = record { only = λ e. absurd (other e); always = λ grew. absurd (omega (arith, same, grew)) }

-- and one that rose tells its status
rose : (wanted before now status : ℕ) → Rose before now → status ≡ wanted → Tells wanted before now status
rose wanted before now status risen is = record { only = λ e. risen; always = λ grew. is }

pub ended_source : (c : Command) (moment : ℕ) (left left' : Option (List ℕ)) (x y : Output) (r : Reply) (source source' status : ℕ) → source' ≡ source → IsReached c moment x.files left left' r
    → IsEnded c r x y status → Tells 3 source source' status
ended_source c moment left left' x y r source source' status same reached (inl (is, a, b, d, e')) =
    let small = small_of c moment x.files left left' r reached in stood 3 source source' status same (λ e. absurd (omega (arith, is, small, e)))
ended_source c moment left left' x y r source source' status same reached (inr (inl (is, a, b, d, e'))) = stood 3 source source' status same (λ e. absurd (omega (arith, is, e)))
ended_source c moment left left' x y r source source' status same reached (inr (inr (is, a, b, d, e'))) = stood 3 source source' status same (λ e. absurd (omega (arith, is, e)))

pub ended_sink : (c : Command) (moment : ℕ) (left left' : Option (List ℕ)) (x y : Output) (r : Reply) (status : ℕ) → IsReached c moment x.files left left' r
    → IsEnded c r x y status → Tells 4 x.write_faults y.write_faults status
ended_sink c moment left left' x y r status reached (inl (is, a, b, d, e')) =
    let small = small_of c moment x.files left left' r reached in stood 4 x.write_faults y.write_faults status b (λ e. absurd (omega (arith, is, small, e)))
ended_sink c moment left left' x y r status reached (inr (inl (is, a, b, d, e'))) = rose 4 x.write_faults y.write_faults status b is
ended_sink c moment left left' x y r status reached (inr (inr (is, a, b, d, e'))) = stood 4 x.write_faults y.write_faults status b (λ e. absurd (omega (arith, is, e)))

pub ended_store : (c : Command) (moment : ℕ) (left left' : Option (List ℕ)) (x y : Output) (r : Reply) (before status : ℕ) → x.store_faults ≡ before → IsReached c moment x.files left left' r
    → IsEnded c r x y status → Tells 6 before y.store_faults status
ended_store c moment left left' x y r before status same reached (inl (is, a, b, d, e')) =
    let small = small_of c moment x.files left left' r reached in stood 6 before y.store_faults status (a ∙ same) (λ e. absurd (omega (arith, is, small, e)))
ended_store c moment left left' x y r before status same reached (inr (inl (is, a, b, d, e'))) = stood 6 before y.store_faults status (a ∙ same) (λ e. absurd (omega (arith, is, e)))
ended_store c moment left left' x y r before status same reached (inr (inr (is, a, b, d, e'))) = rose 6 before y.store_faults status (subst (λ n. Rose n y.store_faults) same a) is

pub ended_range : (c : Command) (moment : ℕ) (left left' : Option (List ℕ)) (x y : Output) (r : Reply) (status : ℕ) → IsReached c moment x.files left left' r
    → IsEnded c r x y status → status ≤ 6
ended_range c moment left left' x y r status reached (inl (is, a, b, d, e')) =
    let small = small_of c moment x.files left left' r reached in omega (arith, is, small)
ended_range c moment left left' x y r status reached (inr (inl (is, a, b, d, e'))) = omega (arith, is)
ended_range c moment left left' x y r status reached (inr (inr (is, a, b, d, e'))) = omega (arith, is)

-- ---- where there was none

pub stopped_answers : (c : Command) (moment : ℕ) (before after : Outside) (stop : Stop) → after.files ≡ before.files → after.held ≡ before.held
    → Answers c moment before after (stop_status stop)
stopped_answers c moment before after Source files held = record {
  done = λ few. absurd (omega (arith, few));
  exact = λ file input s fixed wanted reply. inr (inl refl);
  cut = λ four. absurd (omega (arith, four));
  torn = λ six. inl files;
  untouched = λ either. files;
  silent = λ either. held;
}
stopped_answers c moment before after Store files held = record {
  done = λ few. absurd (omega (arith, few));
  exact = λ file input s fixed wanted reply. inr (inr (inr (inr refl)));
  cut = λ four. absurd (omega (arith, four));
  torn = λ six. inl files;
  untouched = λ either. files;
  silent = λ either. held;
}
stopped_answers c moment before after Memory files held = record {
  done = λ few. absurd (omega (arith, few));
  exact = λ file input s fixed wanted reply. inr (inr (inr (inl refl)));
  cut = λ four. absurd (omega (arith, four));
  torn = λ six. inl files;
  untouched = λ either. files;
  silent = λ either. held;
}

pub stopped_source : (stop : Stop) (source source' store store' : ℕ) → StopsAs stop source source' store store' → Tells 3 source source' (stop_status stop)
stopped_source Source source source' store store' is = rose 3 source source' 3 is.0 refl
stopped_source Store source source' store store' is = stood 3 source source' 6 is.0 (λ e. absurd (omega (arith, e)))
stopped_source Memory source source' store store' is = stood 3 source source' 5 is.0 (λ e. absurd (omega (arith, e)))

pub stopped_sink : (stop : Stop) (sink : ℕ) → Tells 4 sink sink (stop_status stop)
stopped_sink Source sink = stood 4 sink sink 3 refl (λ e. absurd (omega (arith, e)))
stopped_sink Store sink = stood 4 sink sink 6 refl (λ e. absurd (omega (arith, e)))
stopped_sink Memory sink = stood 4 sink sink 5 refl (λ e. absurd (omega (arith, e)))

pub stopped_store : (stop : Stop) (source source' store store' : ℕ) → StopsAs stop source source' store store' → Tells 6 store store' (stop_status stop)
stopped_store Source source source' store store' is = stood 6 store store' 3 is.1 (λ e. absurd (omega (arith, e)))
stopped_store Store source source' store store' is = rose 6 store store' 6 is.1 refl
stopped_store Memory source source' store store' is = stood 6 store store' 5 is.1 (λ e. absurd (omega (arith, e)))

pub stopped_range : (stop : Stop) → stop_status stop ≤ 6
stopped_range Source = lit≤ tt
stopped_range Store = lit≤ tt
stopped_range Memory = lit≤ tt

-- ---- its clock

-- a run that comes to a moment uses the clock for it
pub clock_used : (c : Command) (before now : ClockAt) (moment status : ℕ) → IsMomentFor c before now moment → UsesClock c before now status
clock_used c before now moment status is = record { read = λ reads. inl (is.read reads).0; unread = is.unread }

-- and one for which memory is wanting before doesn't
pub clock_unused : (c : Command) (before : ClockAt) → UsesClock c before before 5
clock_unused c before = record { read = λ reads. inr (refl, refl); unread = λ other. refl }

-- ---- all of it, where there was no reply

not_done : (stop : Stop) → stop_status stop ≡ 0 → ⊥
not_done Source is = absurd (omega (arith, is))
not_done Store is = absurd (omega (arith, is))
not_done Memory is = absurd (omega (arith, is))

-- a run that stops has written and kept nothing
pub run_stopped : {S D C : Type 0} → (c : Command) (stop : Stop) (before after : World S D C) (moment : ℕ) → after.files ≡ before.files → after.held ≡ before.held
    → after.write_faults ≡ before.write_faults → StopsAs stop before.read_faults after.read_faults before.store_faults after.store_faults
    → IsMomentFor c before.readings after.readings moment → (wants_input c ≡ false → after.input ≡ before.input) → (named c ≡ None → after.store ≡ before.store)
    → (reads_clock c ≡ false → after.clock ≡ before.clock) → IsRun c before after (stop_status stop)
run_stopped c stop before after moment files held sink faults uses input store clock = record {
  answers = stopped_answers c after.readings.last (told_of before) (told_of after) stop files held;
  sealed = λ name typ workers is done. absurd (not_done stop done);
  source = stopped_source stop before.read_faults after.read_faults before.store_faults after.store_faults faults;
  sink = subst (λ n. Tells 4 before.write_faults n (stop_status stop)) (sym sink) (stopped_sink stop before.write_faults);
  store = stopped_store stop before.read_faults after.read_faults before.store_faults after.store_faults faults;
  clock = clock_used c before.readings after.readings moment (stop_status stop) uses;
  range = stopped_range stop;
  input_apart = input;
  store_apart = store;
  clock_apart = clock;
}

-- and so has one for which memory is wanting before its command is known
pub run_unread : {S D C : Type 0} → (c : Command) (before : World S D C) → IsRun c before before 5
run_unread c before = record {
  answers = stopped_answers c before.readings.last (told_of before) (told_of before) Memory refl refl;
  sealed = λ name typ workers is done. absurd (not_done Memory done);
  source = stopped_source Memory before.read_faults before.read_faults before.store_faults before.store_faults (refl, refl);
  sink = stopped_sink Memory before.write_faults;
  store = stopped_store Memory before.read_faults before.read_faults before.store_faults before.store_faults (refl, refl);
  clock = clock_unused c before.readings;
  range = stopped_range Memory;
  input_apart = λ e. refl;
  store_apart = λ e. refl;
  clock_apart = λ e. refl;
}
