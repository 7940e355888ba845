use Rattle.std.proofs.Common.{ap, decimal}
use Rattle.config_summary.proofs.LineLaws.{octet-before, same-piece}
use Rattle.config_summary.proofs.entities.append_address.Goals as goal

pub returns : goal.returns
returns c =
    let told = c.append_number.result in
    let new = c.append_number.new.out in
    octet-before told c.args.out.now c.append_octet.new.out new _ _ _ c.in_ok-append_octet.ensures
    (octet-before told c.append_octet.new.out c.append_octet-2.new.out new _ _ _ c.in_ok-append_octet-2.ensures
    (octet-before told c.append_octet-2.new.out c.append_octet-3.new.out new _ _ _ c.in_ok-append_octet-3.ensures
    (octet-before told c.append_octet-3.new.out c.append_octet-4.new.out new _ _ _ c.in_ok-append_octet-4.ensures
    (same-piece told c.append_octet-4.new.out new (decimal c.from.result) _ c.append_number.ensures (ap decimal c.from.ensures)))))
