-- Of a link less may be said.
use Rattle.std.proofs.Common.{ℕ, Result, Ok, Err}
use Rattle.resolve_reply.specs.declared.reply.Reply.{Reply}
use Rattle.resolve_round.specs.declared.trace.Trace.{Trace}
use Rattle.fed_resolver.specs.declared.outcome.Refusal.{Refusal}
use Rattle.fed_serve.specs.Resolutions.{CallAt, Walking}
use Rattle.http_messages.specs.declared.request.Incoming.{Incoming}
use Rattle.http_messages.specs.declared.response.Response.{Response}
use Rattle.fed_serve.specs.declared.answering.Answered.{Answered}
use Rattle.fed_serve.specs.declared.answering.AnswerEnd.{AnswerEnd}
use Rattle.fed_serve.specs.declared.answering.AnswerEnd.TheVariants.{Worn, Memory}
use Rattle.fed_serve.specs.declared.node.Node.{Node}
use Rattle.fed_serve.specs.declared.served.Served.{Served}
use Rattle.fed_serve.specs.declared.serving.ServeFault.{ServeFault}
use Rattle.fed_serve.specs.Handlings.{Handling, dealt, issued, not_asked, resolved, unread}
use Rattle.fed_serve.specs.Moments.{AnswerAt, Around, answer_in}
use Rattle.fed_serve.specs.Responses.{out_of_memory}
use Rattle.fed_serve.specs.Answering.{Answers, Came, IsHandledBy, IsWornAt}
use Rattle.fed_serve.specs.Serving.{Serves}
use Rattle.fed_serve.specs.Uses.{Uses}

module _ (v w : Walking) (weaker : (trace : Trace) (result : Result Reply Refusal) → v trace result → w trace result) where
  uses : (node : Node) (t : ℕ) (before now : CallAt) (h : Handling) → Uses node v t before now h → Uses node w t before now h
  uses node t before now unread is = is
  uses node t before now not_asked is = is
  uses node t before now (issued a) is = is
  uses node t before now (resolved resolution outcome) is = (
    is.0,
    is.1,
    record {
      resolves = is.2.resolves;
      link = is.2.link;
      walked = weaker outcome.trace outcome.result is.2.walked;
      counted = is.2.counted;
      complete = is.2.complete;
      sealed = is.2.sealed;
      reads = is.2.reads;
    },
  )
  uses node t before now (dealt change dealing) is = is

  handled : (node : Node) (before now : AnswerAt) (came : Came) (h : Handling) (r : Response) → IsHandledBy node v before now came h r → IsHandledBy node w before now came h r
  handled node before now came h r is = record {
    handles = is.handles;
    clock = is.clock;
    uses = uses node now.clock.last before.call now.call h is.uses;
    unworn = is.unworn;
    message = is.message;
  }

  worn_at : (node : Node) (before now : AnswerAt) (came : Came) (count : ℕ) → IsWornAt node v before now came count → IsWornAt node w before now came count
  worn_at node before now came count is = record {
    handling = is.handling;
    handles = is.handles;
    clock = is.clock;
    uses = uses node now.clock.last before.call now.call is.handling is.uses;
    worn = is.worn;
  }

  -- of one answer
  pub answers : (node : Node) (before now : AnswerAt) (asked : Incoming) (result : Result Answered AnswerEnd) → Answers node v before now asked result
      → Answers node w before now asked result
  answers node before now asked (Ok a) is = record {
    handling = is.handling;
    handled = handled node before now (Ok asked) is.handling a.response is.handled;
    own = is.own;
    has_reason = is.has_reason;
    kind = is.kind;
    status = is.status;
    trace = is.trace;
    cause = is.cause;
  }
  answers node before now asked (Err Memory) is = record { handling = is.handling; handled = handled node before now (Ok asked) is.handling out_of_memory is.handled }
  answers node before now asked (Err (Worn count)) is = worn_at node before now (Ok asked) count is

  -- of one connection
  pub serves : (node : Node) (before now : Around) (result : Result Served ServeFault) → Serves node v before now result → Serves node w before now result
  serves node before now result is = record {
    came = is.came;
    has_come = is.has_come;
    answered = λ served e. let s = is.answered served e in record {
      handling = s.handling;
      response = s.response;
      handled = handled node (answer_in before) (answer_in now) is.came s.handling s.response s.handled;
      written = s.written;
      kind = s.kind;
      status = s.status;
      trace = s.trace;
      cause = s.cause;
    };
    ended = is.ended;
    unread = is.unread;
    read_fault = is.read_fault;
    silent = is.silent;
    cut = λ e. let s = is.cut e in record {
      handling = s.handling;
      response = s.response;
      handled = handled node (answer_in before) (answer_in now) is.came s.handling s.response s.handled;
      written = s.written;
    };
    write_fault = is.write_fault;
    worn = λ count e. let s = is.worn count e in record { is = worn_at node (answer_in before) (answer_in now) is.came count s.is; held = s.held };
  }
