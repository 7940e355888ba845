use denote.Exit.{no}
use denote.Param.{param}
use denote.Param.Send.{arg_send, param_send}
use Rattle.fed_serve.proofs.Crossings.{desk_send}
use Rattle.fed_serve.proofs.many.serve_many.Goals as goal

pub serve_each-requires-send-D : goal.serve_each-requires-send-D
serve_each-requires-send-D g c κs within =
    let sends = c.type_bounds in
    let desk = desk_send (param 5 g.row.N-Peer) (param 2 g.row.L) (param 3 g.row.C) (param 4 g.row.G) sends.send-N-Peer sends.send-L sends.send-C sends.send-G in
    param_send _ _ (arg_send _ no _ desk)
