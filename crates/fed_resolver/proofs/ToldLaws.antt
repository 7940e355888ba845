-- What was hit in a first round stands beside a Look.
use Rattle.std.proofs.Common.{◌≡◌, ℕ, List, ◌++◌, map, flat_map, true, sym, subst, inr}
use Rattle.statement_shelf.specs.declared.calls.Proven.{Proven}
use Rattle.statement_shelf.specs.declared.calls.ShelfCall.TheVariants.{Look}
use Rattle.statement_shelf.specs.declared.calls.ShelfReply.TheVariants as reply
use Rattle.chain_climb.specs.Elements.{Among}
use Rattle.chain_climb.proofs.Elements.{among-flat_map, among-left}
use Rattle.resolve_round.specs.declared.trace.Ask.{Ask}
use Rattle.resolve_round.specs.declared.trace.Event.TheVariants.{Shelf}
use Rattle.resolve_round.specs.declared.trace.Got.TheVariants.{Hit}
use Rattle.resolve_round.specs.declared.trace.Trace.{Trace}
use Rattle.resolve_round.specs.Courses.{Course}
use Rattle.resolve_round.specs.Traces.{look_at_end, look_for, looks_of}
use Rattle.resolve_round.proofs.Elements.{among-map}
use Rattle.resolve_round.proofs.ToldLaws.{look-there}
use Rattle.fed_resolver.specs.Told.{Situation, ToldWhole}
use Rattle.fed_resolver.proofs.CourseLaws.{did-looks}

-- in a round that looks, each ask has its Look
pub looked-for : (t : ℕ) (course : Course) (ask : Ask) → course.looks ≡ true → Among ask course.search.asks → Among (look_for t ask) (looks_of t course)
looked-for t course ask looks among = rw looks (among-left (look_for t ask) (map (look_for t) course.search.asks) (look_at_end t course.stop) (among-map (look_for t) ask course.search.asks among))

-- what was hit in a first round stands beside a Look that replied so
pub hit-looked : (here : Situation) (trace : Trace) (told : ToldWhole here trace) (course : Course) → Among course (told.base.leaf ++ told.base.others) → course.looks ≡ true
    → (url : List ℕ) (proven : Proven) → Among (record { url = url; got = Hit proven }) course.search.asks
    → Among (Shelf (Look url here.moment) (reply.Hit proven)) trace.events
hit-looked here trace told course there looks url proven among =
    let ask : Ask = record { url = url; got = Hit proven } in
    let wanted : Among (look_for here.moment ask) (flat_map (looks_of here.moment) (told.base.leaf ++ told.base.others)) =
    among-flat_map (looks_of here.moment) course (look_for here.moment ask) (told.base.leaf ++ told.base.others) there (looked-for here.moment course ask looks among) in
    let made : Among (Shelf (Look url here.moment) (reply.Hit proven)) told.base.work = look-there told.base.work (look_for here.moment ask)
    (subst (Among (look_for here.moment ask)) (sym (did-looks here.moment here.age (told.base.leaf ++ told.base.others) told.base.work told.did)) wanted) in
    subst (Among (Shelf (Look url here.moment) (reply.Hit proven))) (sym told.base.begins) (inr made)
