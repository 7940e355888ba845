-- Connections that were served, and others after them.
use Rattle.std.proofs.Common.{◌≡◌, ◌+◌, ◌<◌, ℕ, List, [], ◌∷◌, ◌++◌, map, Option, Some, None, option_map, refl, sym, ap, ap₂, ◌∙◌, subst, append_assoc, append-nil, length-append}
use Rattle.std.proofs.lemmas.List.{map-append}
use Rattle.std.specs.List.{AllByRecursion}
use Rattle.fed_ports.specs.Lists.{Added, Gave}
use Rattle.fed_ports.specs.Times.{ClockAt, IsOneReading}
use Rattle.http_messages.specs.declared.request.Incoming.{Incoming}
use Rattle.authority_core.specs.Nodes.{Node}
use Rattle.fed_serve.specs.Answering.{Answers, AnswersAtMoment}
use Rattle.fed_serve.specs.Resolutions.{CallAt, Walking}
use Rattle.fed_serve.specs.declared.answering.Answered.{Answered}
use Rattle.fed_serve.specs.declared.answering.AnswerEnd.{AnswerEnd}
use Rattle.fed_serve.specs.declared.node.Node.{Node as AnyNode}
use Rattle.fed_serve.specs.declared.served.Served.{Served}
use Rattle.fed_serve.specs.declared.serving.ServeFault.{ServeFault}
use Rattle.fed_serve.specs.Moments.{Around, answer_at}
use Rattle.fed_serve.specs.Serving.{Serves as ServesOne}
use Rattle.fed_serve.proofs.Walks.{answers, serves}
use Rattle.fed_serve.specs.declared.part.ResolverPart.{ResolverPart}
use Rattle.std.specs.Prelude.{Err, Result}
use Rattle.node_service.specs.declared.stop.Stop.{Stop}
use Rattle.node_service.specs.declared.stop.Stop.TheVariants.{Network, Memory}
use Rattle.node_service.specs.Ends.{NextOf, StopsAfter}
use Rattle.node_service.specs.Connections.{AreServed, Connection, ReadInTurn, ServiceAt, Serves, alone, came_of, gone_of, uncalled}

gave_after : {A : Type 0} (xs ys : List A) (a b c : Option (List A)) → Gave a xs b → Gave b ys c → Gave a (xs ++ ys) c
gave_after xs ys a b None one next = one ∙ ap (option_map (λ rest. xs ++ rest)) next
gave_after xs ys a b (Some rest) one next = one ∙ ap (option_map (λ rest. xs ++ rest)) next ∙ ap Some (sym (append_assoc xs ys rest))

added_after : {A : Type 0} (xs ys : List A) (a b c : Option (List A)) → Added a xs b → Added b ys c → Added a (xs ++ ys) c
added_after xs ys None b c one next = next ∙ ap (option_map (λ held. held ++ ys)) one
added_after xs ys (Some held) b c one next = next ∙ ap (option_map (λ held. held ++ ys)) one ∙ ap Some (append_assoc held xs ys)

all_after : {A : Type 0} (P : A → Type 0) (xs ys : List A) → AllByRecursion P xs → AllByRecursion P ys → AllByRecursion P (xs ++ ys)
all_after P [] ys one next = next
all_after P (x ∷ xs) ys one next = (one.0, all_after P xs ys one.1 next)

read_after : {P A : Type 0} (cs ds : List (Connection P A)) (a b c : ClockAt) → ReadInTurn a cs b → ReadInTurn b ds c → ReadInTurn a (cs ++ ds) c
read_after [] ds a b c one next = subst (λ clock. ReadInTurn clock ds c) one next
read_after (x ∷ cs) ds a b c one next = (one.0, read_after cs ds x.clock' b c one.1 next)

served_after : {P A : Type 0} (answers : Node → Connection P A → Type 0) (node : Node) (cs ds : List (Connection P A)) (a b c : ServiceAt P) → AreServed answers node cs a b → AreServed answers node ds b c
    → AreServed answers node (cs ++ ds) a c
served_after answers node cs ds a b c one next = record {
  port = next.port ∙ one.port;
  accepted = subst (λ came. Gave a.callers came c.callers) (sym (map-append came_of cs ds)) (gave_after (map came_of cs) (map came_of ds) a.callers b.callers c.callers one.accepted next.accepted);
  answered = all_after _ cs ds one.answered next.answered;
  settled = subst (λ gone. Added a.settled gone c.settled) (sym (map-append gone_of cs ds)) (added_after (map gone_of cs) (map gone_of ds) a.settled b.settled c.settled one.settled next.settled);
  clocks = read_after cs ds a.clock b.clock c.clock one.clocks next.clocks;
}

-- so many were served, and then others
pub serves_more : {P A : Type 0} (answers : Node → Connection P A → Type 0) (node : Node) (m n : ℕ) (a b c : ServiceAt P) → Serves answers node m a b → Serves answers node n b c → Serves answers node (m + n) a c
serves_more answers node m n a b c one next =
    (one.0 ++ next.0, length-append one.0 next.0 ∙ ap₂ (λ i j. i + j) one.1 next.1, served_after answers node one.0 next.0 a b c one.2 next.2)

gave_none : {A : Type 0} (a : Option (List A)) → Gave a [] a
gave_none None = refl
gave_none (Some xs) = refl

added_none : {A : Type 0} (a : Option (List A)) → Added a [] a
added_none None = refl
added_none (Some xs) = ap Some (sym (append-nil xs))

-- before the first, none was served
pub serves_none : {P A : Type 0} (answers : Node → Connection P A → Type 0) (node : Node) (a : ServiceAt P) → Serves answers node 0 a a
serves_none answers node a = ([], refl, record { port = refl; accepted = gave_none a.callers; answered = tt; settled = added_none a.settled; clocks = refl })

pub serves_all : {P A : Type 0} (answers : Node → Connection P A → Type 0) (node : Node) (m n : ℕ) (a b : ServiceAt P) → m ≡ n → Serves answers node m a b → Serves answers node n a b
serves_all answers node m n a b same served = (served.0, served.1 ∙ same, served.2)

-- so many were served, fewer than are to be, and then none was accepted, or one was dropped
pub stops_after : {P A : Type 0} (answers : Node → Connection P A → Type 0) (node : Node) (m n : ℕ) (a b c : ServiceAt P) (stop : Stop) → m < n → Serves answers node m a b → NextOf answers node b c (Err stop)
    → StopsAfter answers node n a c (Err stop)
stops_after answers node m n a b c Network fewer served same = record { count = m; fewer = fewer; served = subst (λ now. Serves answers node m a now) (sym same) served }
stops_after answers node m n a b c Memory fewer served dropped = record { then = b; served = record { count = m; fewer = fewer; served = served }; dropped = dropped }

-- a node that doesn't resolve answered as an authority
pub answered_alone : (node : AnyNode) (walks : Walking) (before now : Around) (result : Result Served ServeFault) → node.resolver ≡ None
    → ServesOne node walks before now result → ServesOne (alone node.registry) uncalled before now result
answered_alone node walks before now result none is =
    subst (λ n. ServesOne n uncalled before now result) (ap (λ (o : Option ResolverPart). record { registry = node.registry; resolver = o }) none)
    (serves walks uncalled (λ trace answered walked. tt) node before now result is)

-- so did it one request, at a moment that was read off a clock
pub request_alone : (node : AnyNode) (walks : Walking) (t : ℕ) (call call' : CallAt) (asked : Incoming) (result : Result Answered AnswerEnd) (clock clock' : ClockAt) → node.resolver ≡ None
    → AnswersAtMoment node walks t call call' asked result → IsOneReading clock clock' → clock'.last ≡ t
    → Answers (alone node.registry) uncalled (answer_at clock call) (answer_at clock' call') asked result
request_alone node walks t call call' asked result clock clock' none is reading at =
    subst (λ n. Answers n uncalled (answer_at clock call) (answer_at clock' call') asked result) (ap (λ (o : Option ResolverPart). record { registry = node.registry; resolver = o }) none)
    (answers walks uncalled (λ trace answered walked. tt) node (answer_at clock call) (answer_at clock' call') asked result (is clock clock' reading at))
