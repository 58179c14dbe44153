mod NamesOfNoStem
