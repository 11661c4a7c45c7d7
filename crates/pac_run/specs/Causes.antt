-- Why a run stops, where a layer below refuses.
use Rattle.pac_lines.specs.declared.line_error.LineError.{LineError}
use Rattle.pac_lines.specs.declared.line_error.LineError.TheVariants as line
use Rattle.pac_engine.specs.declared.fault.EngineCause.{EngineCause}
use Rattle.pac_engine.specs.declared.fault.EngineCause.TheVariants as engine
use Rattle.pac_run.specs.declared.stop.RunStop.{RunStop}
use Rattle.pac_run.specs.declared.stop.RunStop.TheVariants.{InputFault, DiskFault, NoMemory, LogFull, TooLong, TooLarge}

-- why the next line isn't read
abbrev pub stop_of_read : LineError → RunStop
stop_of_read line.Failed = InputFault
stop_of_read line.TooLong = TooLong
stop_of_read line.NoMemory = NoMemory

-- why a request isn't answered; an engine that goes on never says that it has ended
abbrev pub stop_of_engine : EngineCause → RunStop
stop_of_engine engine.DiskFault = DiskFault
stop_of_engine (engine.LogFull need) = LogFull need
stop_of_engine (engine.TooLarge bytes) = TooLarge bytes
stop_of_engine engine.Ended = NoMemory
stop_of_engine engine.NoMemory = NoMemory
