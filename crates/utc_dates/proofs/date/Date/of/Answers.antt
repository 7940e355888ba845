use Rattle.std.proofs.Common.{rules, ◌≡◌, ◌∙◌, ap, subst, sym}
use Rattle.utc_dates.specs.Calendar.{IsDay, days_before}
use Rattle.utc_dates.specs.Dates.{date_of}
use Rattle.utc_dates.proofs.CalendarLaws.{date-before, date-there}
use Rattle.utc_dates.proofs.date.Date.of.Goals as goal

pub returns-clause-there : goal.returns-clause-there
returns-clause-there c =
    let date : c.day_of_year.result ≡ date_of c.args.moment = search rules in
    subst IsDay (sym date) (date-there c.args.moment)

pub returns-clause-counted : goal.returns-clause-counted
returns-clause-counted c =
    let date : c.day_of_year.result ≡ date_of c.args.moment = search rules in
    ap days_before date ∙ date-before c.args.moment
