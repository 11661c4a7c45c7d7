-- The call is of this countdown and this pass.
use Rattle.pac_countdown.proofs.countdown.Countdown.open_next.Given as goal

abbrev pub ghosts-open_as : goal.ghosts-open_as
ghosts-open_as a = record { agenda = a.self.now.agenda; number = a.pass.now.number; from = 0 }
