use Rattle.std.proofs.Common.{refl, rules}
use denote.Param.Send.{given_sync, param_sync}
use Rattle.fed_serve.proofs.DeskLaws.{served_at}
use Rattle.fed_serve.proofs.desk.DeskPlace.serve.Goals as goal

pub serve_by-told-requires-sync-R : goal.serve_by-told-requires-sync-R
serve_by-told-requires-sync-R g c κs within = param_sync _ _ (given_sync _ g.row.R c.requires.sync)

pub returns : goal.returns
returns g c =
    λ peer free is taken. served_at _ c.args.node.now free c.args.self.now _ peer c.in-Some.peer taken (search rules) (record {
      gone = c.serve_by-told.new.peer;
      peer = refl;
      told = c.serve_by-told.result;
      result = search rules;
      serves = c.serve_by-told.ensures.serves;
      kept = c.serve_by-told.ensures.kept;
    })
