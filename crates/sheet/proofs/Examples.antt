-- Some lines worked out, by computation. Assumes nothing.
use mathlib.Core.Bool.{true, false}
use mathlib.Core.Path.{◌≡◌, refl}
use Rattle.text.specs.Texts.{bytes_of, decimal_text, places_from}
use Rattle.rf_machine.specs.declared.Cause.TheVariants.{Bus}
use Rattle.rf_channel.specs.declared.ChannelSettings.{ChannelSettings}
use Rattle.rf_channel.specs.declared.States.TheVariants.{Powered}
use Rattle.rf_call.specs.declared.Slot.TheVariants.{Empty, Halted, Channel}
use Rattle.state_name.specs.Names.{state_text}
use Rattle.sheet.specs.Lines.{level_text, answer_text, bad_text}

of_empty : answer_text 7 12 Empty 0 ≡ bytes_of "7,12,Empty,0,0,0\r\n"
unfolding answer_text state_text level_text decimal_text places_from
of_empty = refl

of_halted : answer_text 10 4 (Halted Bus) 123 ≡ bytes_of "10,4,Halted,0,0,123\r\n"
unfolding answer_text state_text level_text decimal_text places_from
of_halted = refl

-- a channel with its power on and its output off
of_channel : (s : ChannelSettings) → answer_text 100 0 (Channel (record { settings = s; state = Powered; signal_on = false; enable_power = true })) 65536
    ≡ bytes_of "100,0,Powered,1,0,65536\r\n"
unfolding answer_text state_text level_text decimal_text places_from
of_channel s = refl

of_bad : bad_text 42 ≡ bytes_of "42,bad\r\n"
unfolding bad_text decimal_text places_from
of_bad = refl
