-- What the calls are asked for, as definitions see it.
use Rattle.fed.specs.declared.ports.Order.{Order}
use Rattle.fed.specs.declared.resolving.Question.{Question}
use Rattle.cli_words.specs.declared.registration.Registration.{Registration}
use Rattle.node_files.specs.Orders.{Order as Served}
use Rattle.register_once.specs.Registering.{Wanted}
use Rattle.resolve_call.specs.Calls.{Question as Asked}

-- a service: its file, its port and how many are served
abbrev pub order_of : Order → Served
order_of order = record { config = order.config.now; post = record { port = order.port; connections = order.connections } }

-- a call: its file, and its request
abbrev pub question_of : Question → Asked
question_of question = record { config = question.config.now; request = question.request.now }

-- a registration: its file, and its trust anchor
abbrev pub wanted_of : Registration → Wanted
wanted_of registration = record { config = registration.config_file; anchor = registration.anchor }
