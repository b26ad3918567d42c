-- ads7924: what each call does on the bus, and its answer. The first transfer that fails ends it. Definitions only.
use Rattle.std.specs.Prelude.{ℕ, Float, Option, Some, None, Result, Ok, Err}
use Rattle.bus.specs.declared.Eight.{Eight}
use Rattle.bus.specs.declared.Note.TheVariants.{Wait}
use Rattle.bus.specs.declared.Transfer.{Transfer}
use Rattle.bus.specs.declared.Transfer.TheVariants.{Write2, Write3, WriteRead}
use Rattle.bus.specs.Run.{Run, done, bind, mapped, note, transfer, try}
use Rattle.conversions.specs.declared.Limits.{Limits}
use Rattle.conversions.specs.Codes.{ads7924_codes, ads7924_volts}
use Rattle.ads7924.specs.declared.Channel.{Channel}
use Rattle.ads7924.specs.declared.Channel.TheVariants.{Zero}
use Rattle.ads7924.specs.declared.Four.{Four}
use Rattle.ads7924.specs.Layout.{address, mode_control, interrupt_control, word_of, limits_of, interrupt_config, reset, from, idle, awake, scanning, alarm_after, reset_code, limit, enabling, code_of, alarmed}
use Rattle.bus.specs.declared.Failed.{Failed}
use Rattle.bus.specs.declared.Error.{Error}
use Rattle.bus.specs.Rows.{no_answer}
use Rattle.bus.specs.declared.Error.TheVariants as Chip

-- ---- transfers of one register, and of some from a command on

abbrev pub write : ℕ → ℕ → Transfer
write register value = Write2 address register value

abbrev pub read : ℕ → ℕ → Transfer
read command count = WriteRead address command count

-- ---- the opening: reset, a wait of 500 us, an alarm as soon as a limit is passed, scanning

unfoldable pub opening : Run (Result (Unit {0}) Failed)
opening =
    try (write reset reset_code) (Err no_answer) (λ (_ : Eight).
    bind (note (Wait 500)) (λ _.
    try (write mode_control awake) (Err no_answer) (λ (_ : Eight).
    try (write interrupt_config (alarm_after 1)) (Err no_answer) (λ (_ : Eight).
    try (write mode_control scanning) (Err no_answer) (λ (_ : Eight). done (Ok tt))))))

-- ---- measurements

-- some registers, read while the chip is idle; then it scans again
unfoldable pub sample : ℕ → ℕ → Run (Result Eight Failed)
sample command count =
    try (write mode_control idle) (Err no_answer) (λ (_ : Eight).
    try (read command count) (Err no_answer) (λ (d : Eight).
    try (write mode_control awake) (Err no_answer) (λ (_ : Eight).
    try (write mode_control scanning) (Err no_answer) (λ (_ : Eight). done (Ok d)))))

abbrev pub volts : ℕ → ℕ → Float
volts upper lower = ads7924_volts (code_of upper lower)

abbrev pub reading : Result Eight Failed → Result Float Failed
reading (Ok d) = Ok (volts d.b0 d.b1)
reading (Err e) = Err no_answer

abbrev pub readings : Result Eight Failed → Result Four Failed
readings (Ok d) = Ok (record { v0 = volts d.b0 d.b1; v1 = volts d.b2 d.b3; v2 = volts d.b4 d.b5; v3 = volts d.b6 d.b7 })
readings (Err e) = Err no_answer

unfoldable pub get_voltage : Channel → Run (Result Float Failed)
get_voltage channel = mapped reading (sample (from (word_of channel)) 2)

unfoldable pub get_voltages : Run (Result Four Failed)
get_voltages = mapped readings (sample (from (word_of Zero)) 8)

-- ---- alarms

abbrev pub alarm : Result Eight Failed → Result ℕ Failed
alarm (Ok d) = Ok (alarmed d.b0)
alarm (Err e) = Err no_answer

-- the register is cleared as it is read
unfoldable pub clear_alarm : Run (Result ℕ Failed)
clear_alarm = mapped alarm (transfer (read interrupt_control 1))

-- a channel's limits, and then its alarm beside those that are enabled
unfoldable pub arm : Channel → ℕ → ℕ → Run (Result (Unit {0}) Error)
arm channel upper lower =
    try (Write3 address (from (limits_of channel)) upper lower) (Err Chip.Bus) (λ (_ : Eight).
    try (read interrupt_control 1) (Err Chip.Bus) (λ (d : Eight).
    try (write interrupt_control (enabling channel d.b0)) (Err Chip.Bus) (λ (_ : Eight). done (Ok tt))))

abbrev pub arm_with : Channel → Option Limits → Run (Result (Unit {0}) Error)
arm_with channel None = done (Err Chip.Range)
arm_with channel (Some codes) = arm channel (limit codes.high) (limit codes.low)

unfoldable pub set_thresholds : Channel → Float → Float → Run (Result (Unit {0}) Error)
set_thresholds channel low high = arm_with channel (ads7924_codes low high)
