use Rattle.std.proofs.Common.{ℕ, ◌+◌, ◌*◌, List, length, get_or, refl, sym, ap, ◌∙◌, rules, ◌≡◌}
use Prim.Native.Nat.{min}
use lib.Seq.{sets, length-sets}
use Rattle.station.specs.declared.Turnout.{Turnout}
use Rattle.station.specs.Station.{empty_turnout}
use Rattle.sheet_bytes.specs.SheetBytes.{turnout_bytes, records_from}
use Rattle.sheet_bytes.proofs.Stores.{with_rest, rest_all, rest-next, rest-none}
use Rattle.sheet_bytes.proofs.put_turnouts.Goals as goal

-- the bytes of turnout i
abbrev bytes_of : List Turnout → ℕ → List ℕ
bytes_of ts i = turnout_bytes (get_or ts i empty_turnout)

pub loop-i-init : goal.loop-i-init
loop-i-init c = (refl, refl)

pub loop-i-preserved : goal.loop-i-preserved
loop-i-preserved c =
    let stored = c.put_turnout.ensures in
    let l = c.loop-i in
    let n = c.min-i-end.result in
    let f = bytes_of c.args.ts in
    let same = length-sets l.s (8 + 3 * l.i) (f l.i) in
    let next = rest-next f 3 8 n l.i l.s refl c.loop-i-test.true in (
      ap length stored ∙ same ∙ l.invariant.0,
      ap (with_rest f 3 8 n (l.i + 1)) stored ∙ sym next ∙ l.invariant.1,
    )

pub returns : goal.returns
returns c =
    let l = c.loop-i in
    let n = c.min-i-end.result in
    let f = bytes_of c.args.ts in
    let whole : n ≡ min c.args.p 64 = search rules in
    sym (rest-none f 3 8 n l.i l.s c.loop-i-test.false)
    ∙ l.invariant.1
    ∙ rest_all f 3 8 n c.args.s.now
    ∙ ap (λ (k : ℕ). sets c.args.s.now 8 (records_from f 0 k)) whole
