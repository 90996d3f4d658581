-- The desk covers the whole buffer.
use Rattle.std.proofs.Common.{◌≡◌, sym, ◌∙◌, length, eq-eqb, arith}
use Rattle.bigendian.proofs.Places.{sets-whole}
use Rattle.desk_bytes.specs.Encoding.{desk_bytes}
use Rattle.desk_bytes.proofs.RoundTrip.{length-desk_bytes}
use Rattle.works_desk_unit.specs.Unit.{unit_fresh}
use Rattle.works_desk_unit.proofs.fresh.Goals as goal

pub returns : goal.returns
unfolding unit_fresh
returns c =
    let s = c.args.desk.now in
    let room : length s ≡ 520 = omega arith in
    let stored =
    c.encode.ensures
    ∙ sets-whole s (desk_bytes c.fresh.result) (length-desk_bytes c.fresh.result ∙ sym room) in
    rw (stored, c.fresh.ensures, eq-eqb (length s) 520 room)
