-- The call lends this share.
use Rattle.pac_countdown.proofs.countdown.Countdown.split.Given as goal

abbrev pub ghosts-split_as : goal.ghosts-split_as
ghosts-split_as a = record { share = a.share.now }
