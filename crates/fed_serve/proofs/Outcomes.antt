-- How serving ends, by how its parts end.
use Rattle.std.proofs.Common.{◌≡◌, ◌≤◌, ◌<◌, ℕ, Option, Some, None, Result, Ok, Err, refl, sym, ap, ◌∙◌, subst, inl, inr, arith, le_refl}
use Rattle.fed_base.specs.declared.faults.Memory.{Memory}
use Rattle.fed_base.specs.Counts.{Rose}
use Rattle.fed_ports.specs.Causes.{HasCause}
use Rattle.http_messages.specs.declared.read.ReadEnd.{ReadEnd}
use Rattle.http_messages.specs.declared.read.ReadEnd.TheVariants as read
use Rattle.http_messages.specs.declared.request.Incoming.{Incoming}
use Rattle.http_messages.specs.declared.response.Response.{Response}
use Rattle.http_messages.specs.declared.write.WriteEnd.TheVariants as write
use Rattle.http_plain.specs.Readings.{CausedBy, Taken}
use Rattle.http_plain.specs.Writings.{Writes}
use Rattle.authority_core.specs.Nodes.{Node as Authority}
use Rattle.turn_log.specs.declared.worn.Worn.{Worn as WornAt}
use Rattle.fed_serve.specs.Resolutions.{CallAt, Walking}
use Rattle.fed_serve.specs.declared.answering.Answered.{Answered}
use Rattle.fed_serve.specs.declared.answering.AnswerEnd.{AnswerEnd}
use Rattle.fed_serve.specs.declared.answering.AnswerEnd.TheVariants as end
use Rattle.fed_serve.specs.declared.handling.Answer.{Answer}
use Rattle.fed_serve.specs.declared.node.Node.{Node}
use Rattle.fed_serve.specs.declared.served.Served.{Served}
use Rattle.fed_serve.specs.declared.serving.ServeFault.{ServeFault}
use Rattle.fed_serve.specs.declared.serving.ServeFault.TheVariants.{ReadFault, WriteFault, Ended, Worn}
use Rattle.fed_serve.specs.Handlings.{Handling, dealt, issued, not_asked, resolved, unread}
use Rattle.fed_serve.specs.Moments.{AnswerAt, Around, PeerAt, answer_at, answer_in}
use Rattle.fed_serve.specs.Responses.{out_of_memory, response_of, tests_asked}
use Rattle.fed_serve.specs.Answering.{Answers, AnswersAtMoment, Came, ComesWhere, HandsOut, IsHandledBy, IsMessage}
use Rattle.fed_serve.specs.Serving.{HasCome, IsCut, IsServed, Serves, Tells}
use Rattle.fed_serve.specs.Steps.{IsAnswer, IsHandedOut, IsMade, IsMadeOf, IsReading, IsSaid, IsSent, IsTelling, Sends, came_of}
use Rattle.fed_serve.specs.Uses.{IsWornBy, Tests, TestsSome}
use Rattle.fed_serve.proofs.Causes.{cause}

-- ---- counts

grown : {X : Type 0} (before now : ℕ) → now ≡ before → before < now → X
grown before now same grew = let never : ⊥ = omega (arith, same, grew) in absurd never

no_less : (before now : ℕ) → now ≡ before → before ≤ now
no_less before now same = omega (arith, same)

-- a count that stays tells of no fault
pub steady : (result fault : Result Served ServeFault) (before now : ℕ) → (result ≡ fault → ⊥) → now ≡ before → Tells result fault before now
steady result fault before now other same = record {
  only = λ is. absurd (other is);
  always = grown before now same;
  later = no_less before now same;
}

pub risen : (result fault : Result Served ServeFault) (before now : ℕ) → result ≡ fault → before ≤ now → Rose before now → Tells result fault before now
risen result fault before now is later rose = record {
  only = λ same. rose;
  always = λ grew. is;
  later = later;
}

-- ---- nothing is answered

clash : {X : Type 0} (came : Result Incoming ReadEnd) → came ≡ Err read.Ended → came ≡ Err read.ReadFault → X
clash came first second = cc (first, second)

ended : (node : Node) (walks : Walking) (before now : Around) (reading : IsReading before.peer now.peer (Err Ended)) → now.clock ≡ before.clock → now.call ≡ before.call
    → Serves node walks before now (Err Ended)
ended node walks before now reading clock call =
    let steady_reads : now.peer.read_faults ≡ before.peer.read_faults =
    subst (λ c. CausedBy before.peer.read_faults now.peer.read_faults c) reading.hands_on reading.cause in
    record {
      came = reading.came;
      has_come = reading.has_come;
      answered = λ served is. cc is;
      ended = (λ is. reading.hands_on, λ is. refl);
      unread = (λ is. cc is, λ is. clash reading.came reading.hands_on is);
      read_fault = steady _ _ _ _ (λ is. cc is) steady_reads;
      silent = λ is. record { clock = clock; held = reading.held; call = call };
      cut = λ is. cc is;
      write_fault = steady _ _ _ _ (λ is. cc is) reading.write_faults;
      worn = λ count is. cc is;
    }

unread_so : (node : Node) (walks : Walking) (before now : Around) (reading : IsReading before.peer now.peer (Err ReadFault)) → now.clock ≡ before.clock → now.call ≡ before.call
    → Serves node walks before now (Err ReadFault)
unread_so node walks before now reading clock call =
    let rose = subst (λ c. CausedBy before.peer.read_faults now.peer.read_faults c) reading.hands_on reading.cause in
    record {
      came = reading.came;
      has_come = reading.has_come;
      answered = λ served is. cc is;
      ended = (λ is. cc is, λ is. clash reading.came is reading.hands_on);
      unread = (λ is. reading.hands_on, λ is. refl);
      read_fault = risen _ _ _ _ refl rose.0 rose.1;
      silent = λ is. record { clock = clock; held = reading.held; call = call };
      cut = λ is. cc is;
      write_fault = steady _ _ _ _ (λ is. cc is) reading.write_faults;
      worn = λ count is. cc is;
    }

pub silent : (node : Node) (walks : Walking) (before now : Around) (fault : ServeFault) → IsReading before.peer now.peer (Err fault) → now.clock ≡ before.clock
    → now.call ≡ before.call → Serves node walks before now (Err fault)
silent node walks before now Ended reading clock call = ended node walks before now reading clock call
silent node walks before now ReadFault reading clock call = unread_so node walks before now reading clock call
silent node walks before now WriteFault reading clock call = absurd reading.hands_on
silent node walks before now (Worn count) reading clock call = absurd reading.hands_on

-- ---- a message

-- what was tested is no more than all
some_tests : (node : Authority) (h : Handling) (before now : ℕ) → Tests node h before now → TestsSome node h before now
some_tests node unread before now is = is
some_tests node not_asked before now is = is
some_tests node (issued a) before now is = record { steps = tests_asked node a; within = le_refl (tests_asked node a); counts = is }
some_tests node (resolved resolution outcome) before now is = tt
some_tests node (dealt change dealing) before now is = tt

message : (node : Authority) (t : ℕ) (h : Handling) (before now : ℕ) (made : Result Response Memory) (said : Response)
    → IsMade node t h before now made → IsSaid made said → IsMessage node t h before now said
message node t h before now (Ok response) said is (inl same) =
    let e : response ≡ said = cc same in
    inl (subst (λ r. response_of node t h ≡ Some r) e is.0, is.1)
message node t h before now (Ok response) said is (inr wanting) = inr (wanting, some_tests node h before now is.1)
message node t h before now (Err m) said is (inl same) = cc same
message node t h before now (Err m) said is (inr wanting) = inr (wanting, is)

handled : (node : Node) (walks : Walking) (before now : AnswerAt) (came : Came) (answer : Answer) (said : Response)
    → (is : IsMadeOf node walks before now came (Ok answer)) → IsSaid answer.response said → IsHandledBy node walks before now came is.answer.handling said
handled node walks before now came answer said is says = record {
  handles = is.answer.handles;
  clock = is.clock;
  uses = is.answer.does.uses;
  unworn = is.answer.does.told.0;
  message = message node.registry now.clock.last is.answer.handling before.call.tests now.call.tests answer.response said is.answer.does.told.3 says;
}

of_message : (node : Node) (walks : Walking) (before now : AnswerAt) (came : Came) (answer : Answer) (said : Response)
    → (is : IsMadeOf node walks before now came (Ok answer)) → IsSaid answer.response said → ComesWhere node came is.answer.handling said
of_message node walks before now came answer said is says =
    let h = handled node walks before now came answer said is says in
    cause node now.clock.last before.call.tests now.call.tests came is.answer.handling said h.handles h.message

-- ---- the answer that is handed out

pub handed_out : (node : Node) (walks : Walking) (before now : AnswerAt) (asked : Incoming) (made : Result Answer WornAt) (result : Result Answered AnswerEnd)
    → IsMadeOf node walks before now (Ok asked) made → IsHandedOut made result → Answers node walks before now asked result
handed_out node walks before now asked (Ok answer) (Ok answered) is out =
    let h = is.answer.handling in
    let told = is.answer.does.told in
    let made = subst (IsMade node.registry now.clock.last h before.call.tests now.call.tests) out.0 told.3 in
    record {
      handling = h;
      handled = handled node walks before now (Ok asked) answer answered.response is (inl out.0);
      own = (made.0, made.1);
      has_reason = made.2;
      kind = ap (λ (s : Served). s.kind) out.1 ∙ told.1;
      status = ap (λ (s : Served). s.status) out.1;
      trace = subst (HandsOut h) (sym (ap (λ (s : Served). s.trace) out.1)) told.2;
      cause = of_message node walks before now (Ok asked) answer answered.response is (inl out.0);
    }
handed_out node walks before now asked (Ok answer) (Err end.Memory) is out =
    record { handling = is.answer.handling; handled = handled node walks before now (Ok asked) answer out_of_memory is (inr refl) }
handed_out node walks before now asked (Err w) (Err (end.Worn count)) is out = record {
  handling = is.answer.handling;
  handles = is.answer.handles;
  clock = is.clock;
  uses = is.answer.does.uses;
  worn = subst (IsWornBy is.answer.handling) out is.answer.does.told;
}
handed_out node walks before now asked (Ok answer) (Err (end.Worn count)) is out = absurd out
handed_out node walks before now asked (Err w) (Ok answered) is out = absurd out
handed_out node walks before now asked (Err w) (Err end.Memory) is out = absurd out

-- what was handled at a moment that was read off a clock
pub at_moment : (node : Node) (walks : Walking) (t : ℕ) (before now : CallAt) (asked : Incoming) (made : Result Answer WornAt) (result : Result Answered AnswerEnd)
    → IsAnswer node walks t before now (Ok asked) made → IsHandedOut made result → AnswersAtMoment node walks t before now asked result
at_moment node walks t before now asked made result is out clock clock' reading at =
    handed_out node walks (answer_at clock before) (answer_at clock' now) asked made result
    (record { clock = reading; answer = subst (λ n. IsAnswer node walks n before now (Ok asked) made) (sym at) is }) out

-- ---- what is known of the peer

-- a request that was read whole, or for which memory was wanting
not_ended : {X : Type 0} (came : Option Incoming) → came_of came ≡ Err read.Ended → X
not_ended None is = cc is
not_ended (Some incoming) is = cc is

not_failed : {X : Type 0} (came : Option Incoming) → came_of came ≡ Err read.ReadFault → X
not_failed None is = cc is
not_failed (Some incoming) is = cc is

unfailing : (came : Option Incoming) (before now : ℕ) → CausedBy before now (came_of came) → now ≡ before
unfailing None before now is = is
unfailing (Some incoming) before now is = is

-- what is known of the peer between reading and writing
pub record Passes (before mid now : PeerAt) (came : Option Incoming) : Type 0 where
  pub reading : IsReading before mid (Ok came)
  pub left : now.left ≡ mid.left
  pub read_faults : now.read_faults ≡ mid.read_faults

come : (before mid now : PeerAt) (came : Option Incoming) → Passes before mid now came → HasCome before now (came_of came)
come before mid now came is =
    let at_mid : HasCome before mid (came_of came) = subst (HasCome before mid) is.reading.hands_on is.reading.has_come in
    record {
      answer = at_mid.answer;
      taken = subst (λ l. Taken before.left l (came_of came)) (sym is.left) at_mid.taken;
    }

reads : (before mid now : PeerAt) (came : Option Incoming) → Passes before mid now came → now.read_faults ≡ before.read_faults
reads before mid now came is =
    is.read_faults ∙ unfailing came before.read_faults mid.read_faults (subst (CausedBy before.read_faults mid.read_faults) is.reading.hands_on is.reading.cause)

-- ---- what was sent

answered_whole : (node : Node) (walks : Walking) (before now : Around) (mid : PeerAt) (came : Option Incoming) (answer : Answer) (said : Response) (status : ℕ) (served : Served)
    → Passes before.peer mid now.peer came → IsMadeOf node walks (answer_in before) (answer_in now) (came_of came) (Ok answer) → IsSaid answer.response said
    → Sends mid.held now.peer.held said (Ok status) → (served.kind ≡ answer.kind) × (served.status ≡ status) × (served.trace ≡ answer.trace)
    → IsServed node walks before now (came_of came) served
answered_whole node walks before now mid came answer said status served passes made says sends telling = record {
  handling = made.answer.handling;
  response = said;
  handled = handled node walks (answer_in before) (answer_in now) (came_of came) answer said made says;
  written = subst (λ held. Writes held now.peer.held said (Ok tt)) passes.reading.held sends.0;
  kind = telling.0 ∙ made.answer.does.told.1;
  status = telling.1 ∙ sends.1;
  trace = subst (HandsOut made.answer.handling) (sym telling.2) made.answer.does.told.2;
  cause = of_message node walks (answer_in before) (answer_in now) (came_of came) answer said made says;
}

served_so : (node : Node) (walks : Walking) (before now : Around) (mid : PeerAt) (came : Option Incoming) (served : Served)
    → Passes before.peer mid now.peer came → IsServed node walks before now (came_of came) served → HasCause {T = Served} {E = ServeFault} mid.write_faults now.peer.write_faults (Ok served)
    → Serves node walks before now (Ok served)
served_so node walks before now mid came served passes is caused = record {
  came = came_of came;
  has_come = come before.peer mid now.peer came passes;
  answered = λ other same. let e : served ≡ other = cc same in subst (IsServed node walks before now (came_of came)) e is;
  ended = (λ e. cc e, not_ended came);
  unread = (λ e. cc e, not_failed came);
  read_fault = steady _ _ _ _ (λ e. cc e) (reads before.peer mid now.peer came passes);
  silent = λ e. elim e [ inl e ↦ cc e | inr e ↦ cc e ];
  cut = λ e. cc e;
  write_fault = steady _ _ _ _ (λ e. cc e) (caused.same ∙ passes.reading.write_faults);
  worn = λ count e. cc e;
}

cut_so : (node : Node) (walks : Walking) (before now : Around) (mid : PeerAt) (came : Option Incoming)
    → Passes before.peer mid now.peer came → IsCut node walks before now (came_of came) → HasCause {T = Served} {E = ServeFault} mid.write_faults now.peer.write_faults (Err WriteFault)
    → Serves node walks before now (Err WriteFault)
cut_so node walks before now mid came passes is caused = record {
  came = came_of came;
  has_come = come before.peer mid now.peer came passes;
  answered = λ other e. cc e;
  ended = (λ e. cc e, not_ended came);
  unread = (λ e. cc e, not_failed came);
  read_fault = steady _ _ _ _ (λ e. cc e) (reads before.peer mid now.peer came passes);
  silent = λ e. elim e [ inl e ↦ cc e | inr e ↦ cc e ];
  cut = λ e. is;
  write_fault = risen _ _ _ _ refl (subst (λ n. n ≤ now.peer.write_faults) passes.reading.write_faults caused.later)
      (subst (λ n. Rose n now.peer.write_faults) passes.reading.write_faults caused.failed);
  worn = λ count e. cc e;
}

pub worn_so : (node : Node) (walks : Walking) (before now : Around) (came : Option Incoming) (w : WornAt)
    → Passes before.peer now.peer now.peer came → IsMadeOf node walks (answer_in before) (answer_in now) (came_of came) (Err w) → Serves node walks before now (Err (Worn w.count))
worn_so node walks before now came w passes made = record {
  came = came_of came;
  has_come = come before.peer now.peer now.peer came passes;
  answered = λ other e. cc e;
  ended = (λ e. cc e, not_ended came);
  unread = (λ e. cc e, not_failed came);
  read_fault = steady _ _ _ _ (λ e. cc e) (reads before.peer now.peer now.peer came passes);
  silent = λ e. elim e [ inl e ↦ cc e | inr e ↦ cc e ];
  cut = λ e. cc e;
  write_fault = steady _ _ _ _ (λ e. cc e) passes.reading.write_faults;
  worn = λ count e. let same : w.count ≡ count = cc e in record {
    is = record {
      handling = made.answer.handling;
      handles = made.answer.handles;
      clock = made.clock;
      uses = made.answer.does.uses;
      worn = subst (IsWornBy made.answer.handling) same made.answer.does.told;
    };
    held = passes.reading.held;
  };
}

answered_by : (node : Node) (walks : Walking) (before now : Around) (mid : PeerAt) (came : Option Incoming) (answer : Answer) (said : Response)
    (sent : Result ℕ ServeFault) (result : Result Served ServeFault)
    → Passes before.peer mid now.peer came → IsMadeOf node walks (answer_in before) (answer_in now) (came_of came) (Ok answer) → IsSaid answer.response said
    → Sends mid.held now.peer.held said sent → IsTelling answer said sent result → HasCause mid.write_faults now.peer.write_faults result
    → Serves node walks before now result
answered_by node walks before now mid came answer said (Ok status) (Ok served) passes made says sends telling caused =
    served_so node walks before now mid came served passes (answered_whole node walks before now mid came answer said status served passes made says sends telling) caused
answered_by node walks before now mid came answer said (Err WriteFault) (Err other) passes made says sends telling caused =
    subst (λ f. HasCause {T = Served} {E = ServeFault} mid.write_faults now.peer.write_faults (Err f) → Serves node walks before now (Err f)) (sym telling)
    (cut_so node walks before now mid came passes (record {
      handling = made.answer.handling;
      response = said;
      handled = handled node walks (answer_in before) (answer_in now) (came_of came) answer said made says;
      written = subst (λ held. Writes held now.peer.held said (Err write.WriteFault)) passes.reading.held sends;
    })) caused
answered_by node walks before now mid came answer said (Err Ended) result passes made says sends telling caused = absurd sends
answered_by node walks before now mid came answer said (Err ReadFault) result passes made says sends telling caused = absurd sends
answered_by node walks before now mid came answer said (Err (Worn count)) result passes made says sends telling caused = absurd sends
answered_by node walks before now mid came answer said (Ok status) (Err other) passes made says sends telling caused = absurd telling
answered_by node walks before now mid came answer said (Err WriteFault) (Ok served) passes made says sends telling caused = absurd telling

pub answered : (node : Node) (walks : Walking) (before now : Around) (mid : PeerAt) (came : Option Incoming) (answer : Answer) (result : Result Served ServeFault)
    → Passes before.peer mid now.peer came → IsMadeOf node walks (answer_in before) (answer_in now) (came_of came) (Ok answer) → (sent : IsSent mid.held now.peer.held answer result)
    → HasCause mid.write_faults now.peer.write_faults result → Serves node walks before now result
answered node walks before now mid came answer result passes made sent cause =
    answered_by node walks before now mid came answer sent.said sent.sent result passes made sent.says sent.sends sent.telling cause
