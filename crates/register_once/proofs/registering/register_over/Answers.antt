use Rattle.std.proofs.Common.{ap, subst, sym}
use Rattle.client_register.specs.Finders.{FinderSeen}
use Rattle.client_register.specs.Requests.{posted_in}
use Rattle.http_plain.specs.Networks.{network_seen}
use Rattle.register_once.specs.Opened.{LooksFor, aimed}
use Rattle.register_once.proofs.FinderLaws.{counted, seeks}
use Rattle.register_once.proofs.registering.register_over.Goals as goal

pub returns-clause-registers : goal.returns-clause-registers
returns-clause-registers g c =
    let aim = aimed c.args.opened.now.parts c.args.moment c.args.anchor.now in
    let before = network_seen g.N.Network c.args.net.now in
    let now = network_seen g.N.Network c.look_for-held.new.net in
    let posted = posted_in c.args.opened.now.posted in
    record {
      found = c.register_by-result.new.finder.last;
      registers = c.register_by-result.ensures.registers;
      is_posted = c.register_by-result.ensures.posted;
      seeks =
          seeks aim before now c.look_for-held.new.worn c.new-finder.result c.register_by-result.new.finder (ap (λ (seen : FinderSeen). seen.last) c.new-finder.ensures.seen) posted c.register_by-result.result
          (subst (λ held. LooksFor aim before now posted held c.look_for-held.new.worn) (sym c.new-finder.ensures.held)
          (subst (λ bytes. LooksFor aim before now (posted_in bytes) c.look_for-held.result c.look_for-held.new.worn) c.as_slice-posted.ensures c.look_for-held.ensures.looks))
          c.register_by-result.ensures.asks;
    }

pub returns-clause-worn : goal.returns-clause-worn
returns-clause-worn g c =
    counted _ (network_seen g.N.Network c.args.net.now) (network_seen g.N.Network c.look_for-held.new.net) c.look_for-held.new.worn _ c.look_for-held.result c.look_for-held.ensures.looks
