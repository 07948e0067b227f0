-- Laws of the units: their names and numbers, and a unit as a part of a second.
use Rattle.std.specs.Prelude.{Option, Some, None}
use Prim.Native.Nat.{ℕ, ◌<◌}
use mathlib.Core.Path.{◌≡◌, refl}
use mathlib.Core.Bool.{true}
use native.Mathlib.Omega.{arith}
use borrow.Author.Tests.{le-leb}
use lib.Count.{count_trailing_zeros}
use lib.Dec.{leb}
use lib.Ieee.{binary64, of_int, of_bits, of_fields, round, units, odd, size, climb, span}
use lib.IntN.{pos}
use lib.ListN.{get_or}
use Rattle.text.specs.Bytes.{bytes, equal, is_blank}
use Rattle.text.specs.Names.{lookup}
use Rattle.text.proofs.Names.{Named, named, is_name, is_plain}
use Rattle.text.proofs.Orders.{Order, kept, small}
use Rattle.timescale.specs.Ieee.{unit_name}
use Rattle.timescale.specs.Units.{parse_unit}
use Rattle.timescale.specs.Numbers.{unit_order, unit_number, unit_of}
use Rattle.timescale.specs.declared.TimescaleUnit.{TimescaleUnit}

each : (u : TimescaleUnit) → (parse_unit (bytes (unit_name u)) ≡ Some u) × (is_name (bytes (unit_name u)) ≡ true) × (get_or unit_order (unit_number u) TimescaleUnit.FS ≡ u)
unfolding parse_unit lookup equal is_name is_plain is_blank
each TimescaleUnit.S = (refl, refl, refl)
each TimescaleUnit.MS = (refl, refl, refl)
each TimescaleUnit.US = (refl, refl, refl)
each TimescaleUnit.NS = (refl, refl, refl)
each TimescaleUnit.PS = (refl, refl, refl)
each TimescaleUnit.FS = (refl, refl, refl)

pub unit-names : Named TimescaleUnit (Option TimescaleUnit) unit_name Some parse_unit
unfolding parse_unit
unit-names =
    named unit_name Some None (λ j k e. cc) (λ k e. cc)
    unit_order (λ u. ((each u).0, (each u).1))

pub unit-order : Order unit_order TimescaleUnit.FS unit_number
unit-order = record { back = λ u. (each u).2; each = (refl, (refl, (refl, (refl, (refl, (refl, tt)))))); whole = refl }

-- ---- a unit's number is a place of the order and means that unit; a place of the order is the number of the unit that it means
pub unit-back : (k : TimescaleUnit) → (leb (unit_number k) 5 ≡ true) × (unit_of (unit_number k) ≡ k)
unfolding unit_of
unit-back k = (le-leb (unit_number k) 5 (omega (arith, small unit-order k)), unit-order.back k)

pub unit_kept : (n : ℕ) → n < 6 → unit_number (unit_of n) ≡ n
unfolding unit_of
unit_kept n h = kept unit-order n h

-- the bits of 1.0
pub one-is : of_bits binary64 0x3FF0000000000000 ≡ of_int binary64 (pos 1)
unfolding of_bits of_fields of_int round units odd size climb span count_trailing_zeros
one-is = refl
