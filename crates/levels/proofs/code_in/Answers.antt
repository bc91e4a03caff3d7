-- What is kept is walked or searched, and signed.
use mathlib.Core.Path.{◌≡◌, sym, ◌∙◌}
use mathlib.Core.List.{List}
use Prim.Native.Nat.{ℕ, ◌^◌}
use native.Mathlib.Omega.{arith}
use lib.IntN.{ℤ}
use Rattle.refusals.specs.Sides.{most_log2}
use Rattle.scan.specs.declared.Scan.{Scan}
use Rattle.scan.proofs.Scanned.{area_is}
use Rattle.weights.specs.declared.Weights.{Weights}
use Rattle.coding.specs.declared.Coded.{Coded}
use Rattle.coding.specs.declared.Mode.{Mode}
use Rattle.levels.specs.Inner.Levels.{Codable, CodedAs}
use Rattle.levels.proofs.Coding.{area_range, choosable}
use Rattle.levels.proofs.Chosen.{room_left, level_small, coded_as}
use Rattle.levels.proofs.code_in.Goals as goal

-- what is asked and answered of the side is so of the scan's width and height
module _ (l : ℕ) (s : Scan) (is : (s.w ≡ 2 ^ l) × (s.h ≡ 2 ^ l)) (of : Weights) (block : List ℤ) where
  codable : (d : ℕ) → Codable of.prices of.scale (2 ^ l) (2 ^ l) block d → Codable of.prices of.scale s.w s.h block d
  codable d c = rw (is.0, is.1) c

  coded : (mode : Mode) (after : List ℤ) (r : Coded) → CodedAs mode of.prices of.scale s.w s.h block after r
      → CodedAs mode of.prices of.scale (2 ^ l) (2 ^ l) block after r
  coded mode after r c = rw (is.0, is.1) at c

pub square-scan-requires : goal.square-scan-requires
square-scan-requires c =
    c.requires.1.scan_room ∙ c.requires.0.room ∙ sym (area_is c.args.side.log2 c.args.side.in_range.1)

pub keep-count-requires : goal.keep-count-requires
keep-count-requires c = (
  c.requires.1.kept_room,
  omega (arith, c.requires.0.room, area_range most_log2 c.args.side.log2 c.args.side.in_range.1),
)

pub invariant_of-all : goal.invariant_of-all
invariant_of-all c =
    let s = c.square-scan in
    let ok = codable _ s.result s.ensures c.args.weights c.args.block.now c.args.d c.requires.0 in
    record { choosable = choosable _ _ _ _ _ _ _ c.square-scan.result.scanned ok _ _ c.keep-count.ensures }

pub choose-price-requires : goal.choose-price-requires
choose-price-requires c =
    let s = c.square-scan in
    let ok = codable _ s.result s.ensures c.args.weights c.args.block.now c.args.d c.requires.0 in
    record { room = c.requires.1.levels_room ∙ ok.room; cleared = c.requires.1.cleared }

pub put_signs-count-requires : goal.put_signs-count-requires
put_signs-count-requires c =
    let s = c.square-scan in
    let ok = codable _ s.result s.ensures c.args.weights c.args.block.now c.args.d c.requires.0 in (
      room_left _ _ ok c.keep-count.ensures c.args.mode _ _ c.choose-price.ensures ∙ sym ok.room,
      omega (arith, c.requires.0.room, area_range most_log2 c.args.side.log2 c.args.side.in_range.1),
      level_small _ _ ok c.keep-count.ensures c.args.mode _ _ c.choose-price.ensures,
    )

pub returns : goal.returns
returns c =
    let s = c.square-scan in
    let ok = codable _ s.result s.ensures c.args.weights c.args.block.now c.args.d c.requires.0 in
    coded _ c.square-scan.result c.square-scan.ensures c.args.weights _ c.args.mode _ _
    (coded_as _ _ ok c.keep-count.ensures c.args.mode _ _ c.choose-price.ensures _ _ c.put_signs-count.ensures.0
    c.put_signs-count.ensures.1)
