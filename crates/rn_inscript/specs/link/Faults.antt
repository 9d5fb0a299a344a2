-- What a reader's fault is called where expressions and inscriptions are read.
use Rattle.rn_reading.specs.declared.fault.ReadFault.{ReadFault}
use Rattle.rn_reading.specs.declared.fault.ReadFault.TheVariants as Read
use Rattle.rn_inscript.specs.declared.fault.InscriptFault.{InscriptFault}
use Rattle.rn_inscript.specs.declared.fault.InscriptFault.TheVariants as Fault

abbrev pub inscript_fault : ReadFault → InscriptFault
inscript_fault (Read.Stopped k) = Fault.P2 k
inscript_fault (Read.TooFar k) = Fault.P5 k
inscript_fault (Read.NoMemory no_memory) = Fault.NoMemory no_memory
