mod Widen
