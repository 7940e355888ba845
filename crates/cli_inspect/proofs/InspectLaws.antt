-- From the ends of an inspection to its clauses.
use Rattle.std.proofs.Common.{◌≡◌, ◌⊎◌, ◌≤◌, ℕ, List, refl, sym, ap, ◌∙◌, subst, inl, inr, arith}
use Rattle.std.specs.Prelude.{Option, None, Some, Result, Ok, Err, MatchResult, false, true, not, is_some, unwrap_or}
use Rattle.fed_ports.specs.Bytes.{Appends}
use Rattle.fed_ports.specs.Stores.{Files}
use Rattle.fed_ports.specs.Times.{IsOneReading}
use Rattle.cli_commands.specs.Answers.{Or, StopsAs, Tells, stop_status}
use Rattle.cli_commands.specs.Runs.{World}
use Rattle.cli_commands.specs.declared.answer.Stop.{Stop}
use Rattle.cli_commands.specs.declared.answer.Stop.TheVariants.{Source, Store, Memory}
use Rattle.cli_rings.specs.declared.reply.Reply.{Reply}
use Rattle.cli_commands.proofs.TopLaws.{stopped_range, stopped_sink, stopped_source, stopped_store}
use Rattle.cli_words.specs.declared.inspection.Inspection.{Inspection}
use Rattle.cli_words.specs.declared.inspection.Inspection.TheVariants.{Public, Show, Config, Help, Reply as ReplyCheck}
use Rattle.cli_inspect.specs.Outputs.{WritesLine}
use Rattle.cli_inspect.specs.ReplyChecks.{IsReplyReport}
use Rattle.cli_inspect.specs.Inspections.{Inspects, IsInspected, reads_clock, reads_file, reads_input}
use Rattle.cli_inspect.proofs.OnceLaws.{inspected_once}

-- ---- the moment

moment_by : (at : Option ℕ) (moment last : ℕ) → (not (is_some at) ≡ true → moment ≡ last) → unwrap_or at moment ≡ unwrap_or at last
moment_by None moment last same = same refl
moment_by (Some at) moment last same = refl

-- what an inspection is told at a moment it is told at the clock's last reading, where it reads the clock
pub inspected_at : (i : Inspection) (files : Option Files) (left left' : Option (List ℕ)) (moment last : ℕ) (reply : Reply) → (reads_clock i ≡ true → moment ≡ last)
    → IsInspected i moment files left left' reply → IsInspected i last files left left' reply
inspected_at (Public ring kid) files left left' moment last reply same is = is
inspected_at (Show claims) files left left' moment last reply same is = is
inspected_at (Config config None strict) files left left' moment last reply same is = subst (λ t. IsInspected (Config config None strict) t files left left' reply) (same refl) is
inspected_at (Config config (Some at) strict) files left left' moment last reply same is = is
inspected_at (Help verb) files left left' moment last reply same is = is
inspected_at (ReplyCheck asked) files left left' moment last reply same is =
    subst (λ t. IsReplyReport files asked t left left' reply) (moment_by asked.at moment last same) is

-- ---- statuses

not_silent : (s n : ℕ) → s ≡ n → n ≤ 2 → (s ≡ 3) ⊎ ((s ≡ 5) ⊎ (s ≡ 6)) → ⊥
not_silent s n is small (inl e) = absurd (omega (arith, is, small, e))
not_silent s n is small (inr (inl e)) = absurd (omega (arith, is, small, e))
not_silent s n is small (inr (inr e)) = absurd (omega (arith, is, small, e))

not_four : (s : ℕ) → s ≡ 4 → (s ≡ 3) ⊎ ((s ≡ 5) ⊎ (s ≡ 6)) → ⊥
not_four s is (inl e) = absurd (omega (arith, is, e))
not_four s is (inr (inl e)) = absurd (omega (arith, is, e))
not_four s is (inr (inr e)) = absurd (omega (arith, is, e))

not_few : (stop : Stop) → stop_status stop ≤ 2 → ⊥
not_few Source few = absurd (omega (arith, few))
not_few Store few = absurd (omega (arith, few))
not_few Memory few = absurd (omega (arith, few))

not_cut : (stop : Stop) → stop_status stop ≡ 4 → ⊥
not_cut Source four = absurd (omega (arith, four))
not_cut Store four = absurd (omega (arith, four))
not_cut Memory four = absurd (omega (arith, four))

stop_or : (A : Type 0) (stop : Stop) → Or A (stop_status stop)
stop_or A Source = inr (inl refl)
stop_or A Store = inr (inr (inr (inr refl)))
stop_or A Memory = inr (inr (inr (inl refl)))

-- what steps aside of an object leaves its count of faults
pub store-steady : (r : Result Reply Stop) (source before after : ℕ) → MatchResult r (λ reply. after ≡ before) (λ stop. StopsAs stop source source before after)
    → MatchResult r (λ reply. (source ≡ source) × (after ≡ before)) (λ stop. StopsAs stop source source before after)
store-steady (Ok reply) source before after is = (refl, is)
store-steady (Err stop) source before after is = is

pub source-steady : (r : Result Reply Stop) (store before after : ℕ) → MatchResult r (λ reply. after ≡ before) (λ stop. StopsAs stop before after store store)
    → MatchResult r (λ reply. (after ≡ before) × (store ≡ store)) (λ stop. StopsAs stop before after store store)
source-steady (Ok reply) store before after is = (is, refl)
source-steady (Err stop) store before after is = is

-- what an inspection leaves as it was
pub record Leaves {S D C : Type 0} (i : Inspection) (before after : World S D C) : Type 0 where
  pub files : after.files ≡ before.files
  pub input : reads_input i ≡ false → after.input ≡ before.input
  pub store : reads_file i ≡ false → after.store ≡ before.store
  pub clock : reads_clock i ≡ false → after.clock ≡ before.clock

-- ---- with a reply, which was written, or its beginning

pub inspected : {S D C : Type 0} (i : Inspection) (before after : World S D C) (reply : Reply) (status : ℕ)
    → IsInspected i after.readings.last before.files before.left after.left reply → reply.status ≤ 2
    → WritesLine reply.status reply.text before.held after.held before.write_faults after.write_faults status
    → after.read_faults ≡ before.read_faults → after.store_faults ≡ before.store_faults → Leaves i before after
    → (reads_clock i ≡ true → IsOneReading before.readings after.readings) → Inspects i before after status
inspected i before after reply status is small (inl (same, written, quiet)) read stored leaves once = record {
  done = λ few. (reply, is, same, written);
  exact = λ left other told is_other.
      let one : reply ≡ other = inspected_once i after.readings.last before.files before.left after.left left reply other told is is_other in
      inl (same ∙ ap (λ r. r.status) one, subst (λ r. Appends before.held after.held r.text) one written);
  cut = λ four. absurd (omega (arith, same, small, four));
  silent = λ either. absurd (not_silent status reply.status same small either);
  source = record { only = λ three. absurd (omega (arith, same, small, three)); always = λ grew. absurd (omega (arith, read, grew)) };
  sink = record { only = λ four. absurd (omega (arith, same, small, four)); always = λ grew. absurd (omega (arith, quiet, grew)) };
  store = record { only = λ six. absurd (omega (arith, same, small, six)); always = λ grew. absurd (omega (arith, stored, grew)) };
  range = omega (arith, same, small);
  files = leaves.files;
  input_apart = leaves.input;
  store_apart = leaves.store;
  clock = λ reads. inl (once reads);
  clock_apart = leaves.clock;
}
inspected i before after reply status is small (inr (four, (n, written), rose)) read stored leaves once = record {
  done = λ few. absurd (omega (arith, four, few));
  exact = λ left other told is_other. inr (inr (inl four));
  cut = λ _. (reply, n, is, written);
  silent = λ either. absurd (not_four status four either);
  source = record { only = λ three. absurd (omega (arith, four, three)); always = λ grew. absurd (omega (arith, read, grew)) };
  sink = record { only = λ _. rose; always = λ _. four };
  store = record { only = λ six. absurd (omega (arith, four, six)); always = λ grew. absurd (omega (arith, stored, grew)) };
  range = omega (arith, four);
  files = leaves.files;
  input_apart = leaves.input;
  store_apart = leaves.store;
  clock = λ reads. inl (once reads);
  clock_apart = leaves.clock;
}

-- ---- without one

pub stopped : {S D C : Type 0} (i : Inspection) (before after : World S D C) (stop : Stop) (status : ℕ) → status ≡ stop_status stop
    → StopsAs stop before.read_faults after.read_faults before.store_faults after.store_faults → after.held ≡ before.held → after.write_faults ≡ before.write_faults
    → Leaves i before after → (reads_clock i ≡ true → IsOneReading before.readings after.readings ⊎ ((after.readings ≡ before.readings) × (stop_status stop ≡ 5)))
    → Inspects i before after status
stopped i before after stop status is stops held quiet leaves once = subst (λ s. Inspects i before after s) (sym is) (record {
  done = λ few. absurd (not_few stop few);
  exact = λ left other told is_other. stop_or _ stop;
  cut = λ four. absurd (not_cut stop four);
  silent = λ either. held;
  source = stopped_source stop before.read_faults after.read_faults before.store_faults after.store_faults stops;
  sink = subst (λ n. Tells 4 before.write_faults n (stop_status stop)) (sym quiet) (stopped_sink stop before.write_faults);
  store = stopped_store stop before.read_faults after.read_faults before.store_faults after.store_faults stops;
  range = stopped_range stop;
  files = leaves.files;
  input_apart = leaves.input;
  store_apart = leaves.store;
  clock = once;
  clock_apart = leaves.clock;
})

-- memory was wanting for the words
pub uninspected : {S D C : Type 0} (i : Inspection) (before : World S D C) → Inspects i before before 5
uninspected i before =
    stopped i before before Memory 5 refl (refl, refl) refl refl (record { files = refl; input = λ _. refl; store = λ _. refl; clock = λ _. refl }) (λ _. inr (refl, refl))
