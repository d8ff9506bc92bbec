-- The codes with which loading refuses a program.
use Rattle.std.specs.Prelude.{ℕ, false, ◌/◌, ◌%◌, List, [], ◌∷◌}
use Rattle.std.specs.Fmt.{digit_glyph}
use Rattle.control.specs.declared.code.LoadingCode.{LoadingCode}
use Rattle.control.specs.declared.code.LoadingCode.TheVariants.{UnknownOpcode, BadOperand, PushAtEight, PopAtZero, CallTooDeep, ReturnOutside, BadAddress, DepthDiffers, LeavesSection, SectionRunsOn, CallsBack}

abbrev pub number : LoadingCode → ℕ
number UnknownOpcode = 0x01
number BadOperand = 0x02
number PushAtEight = 0x03
number PopAtZero = 0x04
number CallTooDeep = 0x05
number ReturnOutside = 0x06
number BadAddress = 0x08
number DepthDiffers = 0x11
number LeavesSection = 0x12
number SectionRunsOn = 0x13
number CallsBack = 0x14

-- the number as two hexadecimal digits
abbrev pub number_text : LoadingCode → List ℕ
number_text code = digit_glyph false (number code / 16) ∷ digit_glyph false (number code % 16) ∷ []
